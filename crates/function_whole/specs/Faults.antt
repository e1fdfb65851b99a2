-- Errors of functions: of the first invalid part.
use Rattle.std.specs.Prelude.{◌⊎◌, ◌<◌, ℕ, Option, Bool, List, length}
use Rattle.function_body_checks.specs.ControlFaults.{IsControlFaultAt}
use Rattle.typing_errors.specs.declared.expressions.ExpressionError.{ExpressionError}
use Rattle.typing_errors.specs.declared.error.FunctionError.{FunctionError}
use Rattle.typing_errors.specs.declared.error.FunctionError.TheVariants as error
use Rattle.function_interface.specs.Analysis.{Faults}
use Rattle.function_interface.specs.Arities.{IsArityFaultAt}
use Rattle.function_interface.specs.Interfaces.{IsInterfaceFault}
use Rattle.ir_blocks.specs.judged.Control.{ControlOK}
use Rattle.ir_blocks.specs.judged.Places.{Place, OccursAt}
use Rattle.ir_blocks.specs.judged.Plain.{PlainStatement}
use Rattle.ir_flags.specs.Sets.{Has}
use Rattle.ir_flags.specs.declared.settings.TheConstants.ValidationFlags.{EXPRESSIONS, BLOCKS, STRICT_SCOPE}
use Rattle.ir_flags.specs.declared.settings.Settings.{Settings}
use Rattle.ir_items.specs.judged.Plain.{PlainFunction, PlainModule}
use Rattle.function_statements.specs.Payloads.{IsPayloadsFaultAt}
use Rattle.function_body_checks.specs.Faults.{IsScopeFaultAt}
use Rattle.spec_expressions.specs.judged.CallArities.{AritiesMatch}
use Rattle.spec_statements.specs.found.Answered.{EachOnce}
use Rattle.spec_statements.specs.judged.BlockContext.{BlockContext}
use Rattle.spec_statements.specs.judged.Functions.{Reading, AreFormsBy, block_context}
use Rattle.spec_statements.specs.judged.Interfaces.{InterfaceOK}
use Rattle.spec_statements.specs.judged.Payloads.{PayloadsOK}
use Rattle.spec_statements.specs.judged.Results.{AnswersBy, DenotesResult}
use Rattle.spec_statements.specs.judged.Scope.{ScopeOK}
use Rattle.spec_statements.specs.judged.Statements.{StatementOK}
use Rattle.spec_statements.specs.judged.Strict.{StrictOK}
use Rattle.function_statements.specs.Faults.{IsBodyFaultAt}
use Rattle.function_strict_scope.specs.Faults.{IsStrictFaultAt}
use Rattle.typing_forms.specs.declared.form.Form.{Form}

-- ---- expressions

-- it is the first invalid one
pub record IsRefusedAt (reading : Reading) (faults : Faults) (c : BlockContext) (e : ℕ) (x : ExpressionError) : Type 0 where
  pub within : e < length c.f.expressions
  pub wrong : faults.IsFaultAt c.capabilities c.forms e x
  pub before : (k : ℕ) → k < e → reading.IsAccepted c.capabilities c.forms k

abbrev pub IsExpressionFault : Reading → Faults → BlockContext → FunctionError → Type 0
IsExpressionFault reading faults c (error.Expression e x) = IsRefusedAt reading faults c e x
IsExpressionFault reading faults c _ = ⊥

-- if expressions are validated, all are valid
abbrev pub AllAccepted : Reading → Settings → BlockContext → Type 0
AllAccepted reading s c = Has s.flags.0 EXPRESSIONS.0 → (e : ℕ) → e < length c.f.expressions → reading.IsAccepted c.capabilities c.forms e

-- ---- the body

-- control flow, scope, results, the rules of statements, ray payloads, or strict scope if it is checked
abbrev pub IsFaultOfBodyAt : Settings → (before : Option ℕ) → BlockContext → FunctionError → Place → Type 0
IsFaultOfBodyAt s before c e p =
    IsControlFaultAt c.f.body e p ⊎ (IsScopeFaultAt s.flags c.f e p ⊎ (IsBodyFaultAt c e p ⊎ (IsPayloadsFaultAt c.m c.f before e p ⊎ (Has s.flags.0 STRICT_SCOPE.0 × IsStrictFaultAt c.f e p))))

-- the body has no such error
pub record IsBodyInOrder (s : Settings) (before : Option ℕ) (c : BlockContext) : Type 0 where
  pub control : ControlOK c.f.body
  pub scope : ScopeOK c.f
  pub once : EachOnce c.f.body
  pub statements : (p : Place) (u : PlainStatement) → OccursAt c.f.body p u → StatementOK c u
  pub payloads : PayloadsOK c.m c.f before
  pub strict : Has s.flags.0 STRICT_SCOPE.0 → StrictOK c.f

-- a result expression belongs to no statement
pub record IsNotAnswered (f : PlainFunction) (e : ℕ) : Type 0 where
  pub stands : DenotesResult f.expressions e
  pub none : (p : Place) → AnswersBy f.body p e → ⊥

abbrev pub IsUnanswered : PlainFunction → FunctionError → Type 0
IsUnanswered f (error.UnvisitedExpression e) = IsNotAnswered f e
IsUnanswered f _ = ⊥

-- ---- all parts

-- after the arity of calls and the analysis; an error of the body is at the place
pub data IsFaultAfter (reading : Reading) (faults : Faults) (s : Settings) (entry : Bool) (before : Option ℕ) (c : BlockContext) (e : FunctionError) (p : Place) : Type 0 where
  in_interface : IsInterfaceFault c entry e → IsFaultAfter reading faults s entry before c e p
  in_expressions : InterfaceOK c entry → Has s.flags.0 EXPRESSIONS.0 → IsExpressionFault reading faults c e → IsFaultAfter reading faults s entry before c e p
  in_body : InterfaceOK c entry → AllAccepted reading s c → Has s.flags.0 BLOCKS.0 → IsFaultOfBodyAt s before c e p → IsFaultAfter reading faults s entry before c e p
  unanswered : InterfaceOK c entry → AllAccepted reading s c → Has s.flags.0 BLOCKS.0 → IsBodyInOrder s before c → Has s.flags.0 EXPRESSIONS.0 → IsUnanswered c.f e → IsFaultAfter reading faults s entry before c e p

-- The arity of calls, the analysis, the variables with the arguments and the result, the expressions, the body, and result
-- expressions: the error is of the first invalid one of these. An error of a call or of the body is at the place; the others
-- have no place.
pub data IsFunctionFaultAt (reading : Reading) (faults : Faults) (s : Settings) (entry : Bool) (before : Option ℕ) (m : PlainModule) (f : PlainFunction) (e : FunctionError) (p : Place) : Type 0 where
  in_arity : IsArityFaultAt m f e p → IsFunctionFaultAt reading faults s entry before m f e p
  in_analysis : AritiesMatch m f → faults.IsAnalysisFault s.flags e → IsFunctionFaultAt reading faults s entry before m f e p
  behind : AritiesMatch m f → reading.IsAnalysed s.flags → (forms : List Form) → AreFormsBy reading f forms → IsFaultAfter reading faults s entry before (block_context s m f forms) e p → IsFunctionFaultAt reading faults s entry before m f e p

-- at some place
abbrev pub IsFunctionFault : Reading → Faults → Settings → (entry : Bool) → (before : Option ℕ) → PlainModule → PlainFunction → FunctionError → Type 0
IsFunctionFault reading faults s entry before m f e = (p : Place) × IsFunctionFaultAt reading faults s entry before m f e p
