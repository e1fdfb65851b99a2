-- Laws of the functions of a module.
use Rattle.std.specs.Prelude.{◌≡◌, ◌↔◌, ℕ, List, Option}
use Rattle.ir_flags.specs.declared.settings.ValidationFlags.{ValidationFlags}
use Rattle.spec_expressions.specs.IrItems.{PlainFunction, PlainModule}
use Rattle.spec_expressions.specs.judged.Summaries.{Summary, CalleesKnown, CallsBelow, IsFormFault}
use Rattle.spec_statements.specs.judged.Analysis.{HasWrongForm}
use Rattle.spec_statements.specs.judged.EarlierPayloads.{IsPayloadBefore}
use Rattle.spec_expressions.specs.judged.FunctionHandles.{CalleesPrecede}

-- at most one ray payload type is kept
abbrev pub OnePayload : Type 0
OnePayload =
    (flags : ValidationFlags) (m : PlainModule) (count : ℕ) (held other : Option ℕ) → IsPayloadBefore flags m count held → IsPayloadBefore flags m count other
    → held ≡ other

-- wrong forms by call chains are those by summaries of the callees
abbrev pub FormsByCallees : Type 0
FormsByCallees =
    (m : PlainModule) (f : PlainFunction) (summaries : List Summary) → CalleesKnown m f summaries → (e : ℕ) → HasWrongForm m f e ↔ IsFormFault f summaries e

-- a function calls only functions that it names
abbrev pub CallsPrecede : Type 0
CallsPrecede = (f : PlainFunction) (before : ℕ) → CalleesPrecede before f → CallsBelow f before
