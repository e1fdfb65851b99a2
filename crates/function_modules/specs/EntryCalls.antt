-- What the check of an entry point requires, once the functions of its module are judged.
use Rattle.std.specs.Prelude.{◌≡◌, ◌<◌, ℕ, List, length, IfSome, Some, slice_get}
use Rattle.ir_items.specs.declared.entries.MeshStageInfo.{MeshStageInfo}
use Rattle.ir_items.specs.judged.Plain.{PlainEntry, PlainModule}
use Rattle.spec_expressions.specs.judged.FunctionHandles.{HandlesInRange, OperandsPrecede}
use Rattle.spec_expressions.specs.judged.ModuleHandles.{HandlesOK}
use Rattle.spec_expressions.specs.judged.Summaries.{Summary, AreSummaries, CalleesKnown}

-- the handles of the entry point are in order, the variables that it names exist, and so do the summaries of its callees
pub record IsReady (m : PlainModule) (summaries : List Summary) (e : PlainEntry) : Type 0 where
  pub in_range : HandlesInRange m e.function
  pub operands : OperandsPrecede e.function.expressions
  pub payload : IfSome e.payload (λ g. g < length m.globals)
  pub output : IfSome e.mesh (λ (i : MeshStageInfo). i.output_variable < length m.globals)
  pub known : CalleesKnown m e.function summaries

-- so is each entry point of a module with valid handles, for the summaries of all its functions
abbrev pub EntriesAreReady : Type 0
EntriesAreReady = (m : PlainModule) (summaries : List Summary) → HandlesOK m → length summaries ≡ length m.functions → AreSummaries m summaries
    → (index : ℕ) (e : PlainEntry) → slice_get m.entries index ≡ Some e → IsReady m summaries e
