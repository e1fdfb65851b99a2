-- The rules of functions, over a lower layer for their expressions.
use Rattle.std.specs.Prelude.{◌≡◌, ◌<◌, ℕ, List, length, Bool, Option, Some, slice_get}
use Rattle.ir_blocks.specs.judged.Control.{ControlOK}
use Rattle.ir_blocks.specs.judged.Places.{Place, OccursAt}
use Rattle.ir_blocks.specs.judged.Plain.{PlainStatement}
use Rattle.ir_flags.specs.Sets.{Has}
use Rattle.ir_flags.specs.declared.settings.Capabilities.{Capabilities}
use Rattle.ir_flags.specs.declared.settings.ValidationFlags.{ValidationFlags}
use Rattle.ir_flags.specs.declared.settings.TheConstants.ValidationFlags.{EXPRESSIONS, BLOCKS, STRICT_SCOPE}
use Rattle.ir_flags.specs.declared.stages.ShaderStages.{ShaderStages}
use Rattle.ir_flags.specs.declared.settings.Settings.{Settings}
use Rattle.spec_expressions.specs.IrItems.{PlainFunction, PlainModule}
use Rattle.spec_expressions.specs.TypingForms.{Form}
use Rattle.spec_expressions.specs.judged.CallArities.{AritiesMatch}
use Rattle.spec_statements.specs.judged.BlockContext.{BlockContext}
use Rattle.spec_statements.specs.judged.Interfaces.{InterfaceOK}
use Rattle.spec_statements.specs.judged.Payloads.{PayloadsOK}
use Rattle.spec_statements.specs.judged.Results.{AnsweredOnce}
use Rattle.spec_statements.specs.judged.Scope.{ScopeOK}
use Rattle.spec_statements.specs.judged.Stages.{statement_stages}
use Rattle.spec_statements.specs.judged.Statements.{StatementOK}
use Rattle.spec_statements.specs.judged.Strict.{StrictOK}

-- What a lower layer provides for a function: the forms of the types of its expressions, whether its analysis finds no fault under
-- given flags, which of its expressions are valid, given these forms and these capabilities, and which
-- stages may run them.
pub record Reading : Type 1 where
  pub HasForm : (expression : ℕ) → Form → Type 0
  pub IsAnalysed : ValidationFlags → Type 0
  pub IsAccepted : Capabilities → (forms : List Form) → (expression : ℕ) → Type 0
  pub IsRunBy : (expression : ℕ) → ShaderStages → Type 0

-- the forms of the types of all expressions of the function
pub record AreFormsBy (reading : Reading) (f : PlainFunction) (forms : List Form) : Type 0 where
  pub many : length forms ≡ length f.expressions
  pub each : (e : ℕ) (t : Form) → slice_get forms e ≡ Some t → reading.HasForm e t

abbrev pub block_context : Settings → PlainModule → PlainFunction → List Form → BlockContext
block_context s m f forms = record { capabilities = s.capabilities; operations = s.subgroup_operations; m = m; f = f; forms = forms }

-- The rules of a body: each statement meets its rule where it occurs, uses expressions in scope, and leaves its block in an allowed
-- way, and results and payloads are valid, given the payload type of the earlier functions and entry points; and under
-- STRICT_SCOPE its scope is strict.
pub record BodyOK (s : Settings) (held : Option ℕ) (c : BlockContext) : Type 0 where
  pub statements : (p : Place) (u : PlainStatement) → OccursAt c.f.body p u → StatementOK c u
  pub scope : ScopeOK c.f
  pub control : ControlOK c.f.body
  pub answered : AnsweredOnce s.flags c.f
  pub payloads : PayloadsOK c.m c.f held
  pub strict : Has s.flags.0 STRICT_SCOPE.0 → StrictOK c.f

-- The arity of calls, the analysis, the variables, the arguments and the result are checked under every set of flags;
-- the rules of expressions under EXPRESSIONS and those of the body under BLOCKS. The function is an entry point's or not.
pub record FunctionOK (reading : Reading) (s : Settings) (entry : Bool) (held : Option ℕ) (m : PlainModule) (f : PlainFunction) : Type 0 where
  pub arity : AritiesMatch m f
  pub analysed : reading.IsAnalysed s.flags
  pub forms : List Form
  pub typed : AreFormsBy reading f forms
  pub interface : InterfaceOK (block_context s m f forms) entry
  pub expressions : Has s.flags.0 EXPRESSIONS.0 → (e : ℕ) → e < length f.expressions → reading.IsAccepted s.capabilities forms e
  pub body : Has s.flags.0 BLOCKS.0 → BodyOK s held (block_context s m f forms)

-- A stage may run a function, by the lower layer: it may run all statements, if these are checked, callees included,
-- and all expressions, if those are. It is a bit of `ShaderStages`.
pub record AllowsStage (reading : Reading) (s : Settings) (callees : List ShaderStages) (f : PlainFunction) (stage : ℕ) : Type 0 where
  pub statements : Has s.flags.0 BLOCKS.0 → (p : Place) (u : PlainStatement) → OccursAt f.body p u → Has (statement_stages s.subgroup_stages callees u).0 stage
  pub expressions : Has s.flags.0 EXPRESSIONS.0 → (e : ℕ) (stages : ShaderStages) → e < length f.expressions → reading.IsRunBy e stages → Has stages.0 stage
