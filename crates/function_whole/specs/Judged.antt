-- The results of the parts of the check of a function.
use Rattle.std.specs.Prelude.{◌↔◌, ◌⊎◌, ◌<◌, ℕ, Bool, Contains, List, Option, length}
use Rattle.function_whole.specs.Faults.{AllAccepted, IsBodyInOrder, IsFaultOfBodyAt, IsUnanswered}
use Rattle.typing_errors.specs.declared.error.FunctionError.{FunctionError}
use Rattle.ir_blocks.specs.judged.Control.{ControlOK}
use Rattle.ir_blocks.specs.judged.Places.{Place, OccursAt}
use Rattle.ir_blocks.specs.judged.Plain.{PlainStatement}
use Rattle.ir_flags.specs.Sets.{Has}
use Rattle.ir_flags.specs.declared.settings.TheConstants.ValidationFlags.{EXPRESSIONS, BLOCKS, STRICT_SCOPE}
use Rattle.ir_flags.specs.declared.stages.ShaderStages.{ShaderStages}
use Rattle.ir_flags.specs.declared.settings.Settings.{Settings}
use Rattle.function_statements.specs.Payloads.{AreOfOneType}
use Rattle.spec_statements.specs.judged.ExpressionStages.{all_stages}
use Rattle.spec_statements.specs.found.Answered.{EachOnce}
use Rattle.spec_statements.specs.judged.BlockContext.{BlockContext}
use Rattle.spec_statements.specs.judged.Functions.{Reading, BodyOK, AllowsStage}
use Rattle.spec_statements.specs.judged.Interfaces.{InterfaceOK}
use Rattle.spec_statements.specs.judged.Payloads.{IsPayloadAfter}
use Rattle.spec_statements.specs.judged.Results.{AnswersBy, DenotesResult}
use Rattle.spec_statements.specs.judged.Scope.{ScopeOK}
use Rattle.spec_statements.specs.judged.Stages.{statement_stages}
use Rattle.spec_statements.specs.judged.Statements.{StatementOK}
use Rattle.spec_statements.specs.judged.Strict.{StrictOK}

-- ---- expressions

-- The expressions before an index are valid, and these are the stages that may run them all.
pub record AcceptedBelow (reading : Reading) (c : BlockContext) (end : ℕ) (stages : ShaderStages) : Type 0 where
  pub each : (e : ℕ) → e < end → reading.IsAccepted c.capabilities c.forms e
  pub run : (stage : ℕ) → Has stages.0 stage ↔ (Has all_stages.0 stage × ((e : ℕ) (own : ShaderStages) → e < end → reading.IsRunBy e own → Has own.0 stage))

-- If expressions are validated, all are valid, and these are the stages that may run them all; else any.
pub record AreExpressionsMet (reading : Reading) (s : Settings) (c : BlockContext) (stages : ShaderStages) : Type 0 where
  pub accepted : AllAccepted reading s c
  pub run : (stage : ℕ) → Has stages.0 stage ↔ (Has all_stages.0 stage × (Has s.flags.0 EXPRESSIONS.0 → (e : ℕ) (own : ShaderStages) → e < length c.f.expressions → reading.IsRunBy e own → Has own.0 stage))

-- ---- the body

-- The body is valid, except that each result expression belongs to a statement; these are the results, and this payload type is
-- kept afterwards.
pub record IsBodyMet (s : Settings) (before : Option ℕ) (c : BlockContext) (answered : List ℕ) (held : Option ℕ) : Type 0 where
  pub control : ControlOK c.f.body
  pub scope : ScopeOK c.f
  pub once : EachOnce c.f.body
  pub asked : (p : Place) (e : ℕ) → AnswersBy c.f.body p e → Has s.flags.0 EXPRESSIONS.0
  pub by : (e : ℕ) → Contains answered e ↔ ((p : Place) × AnswersBy c.f.body p e)
  pub statements : (p : Place) (u : PlainStatement) → OccursAt c.f.body p u → StatementOK c u
  pub payloads : AreOfOneType c.m c.f before held
  pub strict : Has s.flags.0 STRICT_SCOPE.0 → StrictOK c.f

-- each result expression belongs to a statement
abbrev pub AllAnswer : BlockContext → Type 0
AllAnswer c = (e : ℕ) → DenotesResult c.f.expressions e → (p : Place) × AnswersBy c.f.body p e

-- If bodies are validated, this one is valid, and these are the stages that may run all its statements; else any. This payload
-- type is kept afterwards.
pub record AreBlocksMet (s : Settings) (before : Option ℕ) (c : BlockContext) (callees : List ShaderStages) (stages : ShaderStages) (held : Option ℕ) : Type 0 where
  pub body : Has s.flags.0 BLOCKS.0 → BodyOK s before c
  pub run : (stage : ℕ) → Has stages.0 stage ↔ (Has all_stages.0 stage × (Has s.flags.0 BLOCKS.0 → (p : Place) (u : PlainStatement) → OccursAt c.f.body p u → Has (statement_stages s.subgroup_stages callees u).0 stage))
  pub held_after : IsPayloadAfter s.flags c.m c.f before held

-- the body has an error, or it has none, and a result expression belongs to no statement
abbrev pub IsBlocksFaultAt : Settings → (before : Option ℕ) → BlockContext → FunctionError → Place → Type 0
IsBlocksFaultAt s before c e p = Has s.flags.0 BLOCKS.0 × (IsFaultOfBodyAt s before c e p ⊎ (IsBodyInOrder s before c × Has s.flags.0 EXPRESSIONS.0 × IsUnanswered c.f e))

-- ---- all parts after the analysis

-- They are valid; these are the stages that may run the function, and this payload type is kept afterwards.
pub record ArePartsMet (reading : Reading) (s : Settings) (entry : Bool) (before : Option ℕ) (c : BlockContext) (callees : List ShaderStages) (stages : ShaderStages) (held : Option ℕ) : Type 0 where
  pub interface : InterfaceOK c entry
  pub expressions : AllAccepted reading s c
  pub body : Has s.flags.0 BLOCKS.0 → BodyOK s before c
  pub run : (stage : ℕ) → Has stages.0 stage ↔ (Has all_stages.0 stage × AllowsStage reading s callees c.f stage)
  pub held_after : IsPayloadAfter s.flags c.m c.f before held
