-- The steps of the validation of a module, and its result.
use Rattle.std.specs.Prelude.{◌≡◌, ◌↔◌, Bool, true, false, IsTrue, length}
use Rattle.ir_flags.specs.Sets.{Has}
use Rattle.ir_flags.specs.declared.settings.ValidationFlags.{ValidationFlags}
use Rattle.ir_flags.specs.declared.settings.TheConstants.ValidationFlags.{BLOCKS, STRICT_SCOPE}
use Rattle.ir_flags.specs.declared.settings.Settings.{Settings}
use Rattle.ir_items.specs.judged.Plain.{PlainModule}
use Rattle.ir_items.specs.judged.Returned.{IsReturned}
use Rattle.spec_interface.specs.judged.Modules.{EntryAtOK, EntriesOK, FunctionAtOK, FunctionsOK}
use Rattle.spec_interface.specs.judged.Globals.{GlobalOK, GlobalsOK}
use Rattle.spec_expressions.specs.judged.ModuleHandles.{HandlesOK}
use Rattle.judgement.specs.judged.ModuleSteps as step
use Rattle.judgement.specs.judged.ModuleSteps.{ModuleOK, IsFirstFailing}
use Rattle.judgement.specs.declared.finding.Step.TheVariants.{Layout, «Type», Typing, Expression, Constant, Override, Global, Function, Entry}
use Rattle.judgement.specs.declared.finding.Finding.{Finding}
use Rattle.judgement.specs.declared.finding.Finding.TheVariants.{Accepted, RefusedDocument, RefusedHandles, Refused}
use Rattle.spec_expressions.specs.judged.Firsts.{FailsFirst}

-- The module n that is validated is m, with missing returns inserted first if that is requested.
abbrev pub IsPrepared : (returns : Bool) → PlainModule → PlainModule → Type 0
IsPrepared returns m n = elim returns [ true ↦ IsReturned m n | false ↦ n ≡ m ]

-- Strict scope is checked if the flags include `STRICT_SCOPE` and `BLOCKS`, without which it has no effect.
abbrev pub IsScopeStrict : ValidationFlags → Type 0
IsScopeStrict flags = Has flags.0 BLOCKS.0 × Has flags.0 STRICT_SCOPE.0

-- The result for the module that is validated, under the settings and with overrides not resolved: the first
-- failing step, and the least index that fails it. Global variables come after all steps up to overrides, then functions, and then
-- entry points.
abbrev pub IsFinding : Settings → PlainModule → Finding → Type 0
IsFinding s m (Accepted strict) =
    ModuleOK s false m × GlobalsOK s.flags s.capabilities m × FunctionsOK s m × EntriesOK s m × (IsTrue strict ↔ IsScopeStrict s.flags)
IsFinding s m RefusedDocument = ⊥
IsFinding s m RefusedHandles = ¬ HandlesOK m
IsFinding s m (Refused Layout i) = IsFirstFailing s false m step.layout i
IsFinding s m (Refused «Type» i) = IsFirstFailing s false m step.type i
IsFinding s m (Refused Typing i) = IsFirstFailing s false m step.typing i
IsFinding s m (Refused Expression i) = IsFirstFailing s false m step.expression i
IsFinding s m (Refused Constant i) = IsFirstFailing s false m step.constant i
IsFinding s m (Refused Override i) = IsFirstFailing s false m step.override i
IsFinding s m (Refused Global i) = ModuleOK s false m × FailsFirst (length m.globals) (GlobalOK s.flags s.capabilities m) i
IsFinding s m (Refused Function i) = ModuleOK s false m × GlobalsOK s.flags s.capabilities m × FailsFirst (length m.functions) (FunctionAtOK s m) i
IsFinding s m (Refused Entry i) = ModuleOK s false m × GlobalsOK s.flags s.capabilities m × FunctionsOK s m × FailsFirst (length m.entries) (EntryAtOK s m) i
