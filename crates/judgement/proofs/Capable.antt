-- A module that is valid with some capabilities is valid with more.
use Rattle.std.proofs.Common.{◌≡◌, ℕ, Bool, sym, subst}
use Rattle.ir_flags.specs.Sets.{Has}
use Rattle.ir_flags.specs.declared.settings.TheConstants.ValidationFlags.{CONSTANTS}
use Rattle.ir_flags.specs.declared.settings.ValidationFlags.{ValidationFlags}
use Rattle.ir_items.specs.judged.Plain.{PlainModule}
use Rattle.spec_expressions.proofs.Capable.{more_capabilities as expressions_more}
use Rattle.typing_layout.proofs.Capable.{more_capabilities as types_more}
use Rattle.judgement.specs.found.ModuleLaws.{MayUseMore, MoreCapabilities}
use Rattle.ir_flags.specs.declared.settings.Settings.{Settings}
use Rattle.judgement.specs.judged.ModuleSteps.{ModuleStep, layout, type, typing, expression, constant, override, StepOK}

asked_too : (few many : Settings) → MayUseMore few many → Has many.flags.0 CONSTANTS.0 → Has few.flags.0 CONSTANTS.0
asked_too few many more has = subst (λ (f : ValidationFlags). Has f.0 CONSTANTS.0) (sym more.flags) has

step_more : (few many : Settings) (resolved : Bool) (m : PlainModule) (step : ModuleStep) (index : ℕ) → MayUseMore few many → StepOK few resolved m step index → StepOK many resolved m step index
step_more few many resolved m layout index more ok = ok
step_more few many resolved m type index more ok =
    types_more few.capabilities many.capabilities more.within resolved m.types index ok
step_more few many resolved m typing index more ok = ok
step_more few many resolved m expression index more ok =
    λ has. expressions_more few.capabilities many.capabilities more.within resolved m index (ok (asked_too few many more has))
step_more few many resolved m constant index more ok = λ has. ok (asked_too few many more has)
step_more few many resolved m override index more ok = λ has. ok (asked_too few many more has)

pub module_more : MoreCapabilities
module_more few many resolved m more ok = record {
  handles = ok.handles;
  steps = λ step. record { each = λ index within. step_more few many resolved m step index more ((ok.steps step).each index within) };
}
