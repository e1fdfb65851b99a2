use Rattle.std.proofs.Common.{Bool, OnOk, IfOk, IfErr, sym, subst}
use Rattle.std.specs.Prelude.{◌≡◌}
use Rattle.ir_flags.specs.declared.settings.Settings.{Settings}
use Rattle.function_modules.proofs.Assembled.{if_err_as, items_refused}
use Rattle.function_modules.specs.Validated.{IsRefusedWith}
use Rattle.ir_items.specs.found.View.{module_view}
use Rattle.function_errors.specs.ModuleSteps.items as items
use Rattle.function_errors.specs.ModuleSteps.{IsModuleFault, IsInfoOf}
use Rattle.judgement.specs.judged.ModuleSteps.{ModuleOK}
use Rattle.function_modules.proofs.whole.judge_items.Goals as goal

-- what holds by some settings and a truth value holds by those that are the same
moved : (P : Settings → Bool → Type 0) (s t : Settings) (asked resolved : Bool) → s ≡ t → resolved ≡ asked → P s asked → P t resolved
moved P s t asked resolved same is h = subst (λ (z : Settings). P z resolved) same (subst (λ (b : Bool). P s b) (sym is) h)

pub returns-then-resolved-clause-accepted : goal.returns-then-resolved-clause-accepted
returns-then-resolved-clause-accepted c =
    moved (λ s b. OnOk c.validate_resolved_overrides.result (ModuleOK s b (module_view c.args.«module».now))) _ _ _ c.args.resolved c.with_settings-items.ensures c.if-resolved.true c.validate_resolved_overrides.ensures.accepted

pub returns-then-resolved-clause-told : goal.returns-then-resolved-clause-told
returns-then-resolved-clause-told c =
    moved (λ s b. IfOk c.validate_resolved_overrides.result (IsInfoOf s b (module_view c.args.«module».now))) _ _ _ c.args.resolved c.with_settings-items.ensures c.if-resolved.true c.validate_resolved_overrides.ensures.told

pub returns-then-resolved-clause-refused : goal.returns-then-resolved-clause-refused
returns-then-resolved-clause-refused c =
    let v = c.args.validator.now in
    let m = module_view c.args.«module».now in
    if_err_as (items.IsRefusal v.settings c.args.resolved m) (IsRefusedWith (IsModuleFault v.settings c.args.resolved m)) (items_refused v.settings c.args.resolved m) c.validate_resolved_overrides.result
    (moved (λ s b. IfErr c.validate_resolved_overrides.result (items.IsRefusal s b m)) _ _ _ c.args.resolved c.with_settings-items.ensures c.if-resolved.true c.validate_resolved_overrides.ensures.refused)

pub returns-clause-accepted : goal.returns-clause-accepted
returns-clause-accepted c =
    moved (λ s b. OnOk c.validate.result (ModuleOK s b (module_view c.args.«module».now))) _ _ _ c.args.resolved c.with_settings-items.ensures c.if-resolved.false c.validate.ensures.accepted

pub returns-clause-told : goal.returns-clause-told
returns-clause-told c =
    moved (λ s b. IfOk c.validate.result (IsInfoOf s b (module_view c.args.«module».now))) _ _ _ c.args.resolved c.with_settings-items.ensures c.if-resolved.false c.validate.ensures.told

pub returns-clause-refused : goal.returns-clause-refused
returns-clause-refused c =
    let v = c.args.validator.now in
    let m = module_view c.args.«module».now in
    if_err_as (items.IsRefusal v.settings c.args.resolved m) (IsRefusedWith (IsModuleFault v.settings c.args.resolved m)) (items_refused v.settings c.args.resolved m) c.validate.result
    (moved (λ s b. IfErr c.validate.result (items.IsRefusal s b m)) _ _ _ c.args.resolved c.with_settings-items.ensures c.if-resolved.false c.validate.ensures.refused)
