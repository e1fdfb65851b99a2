use Rattle.std.proofs.Common.{refl, sym, subst, arith}
use Rattle.module_constants.specs.declared.override_error.OverrideError.TheVariants as error
use Rattle.ir_items.specs.found.GlobalView.{override_view}
use Rattle.module_constants.proofs.IdLemmas.{noted_ids, own_is, taken_is, more_ids}
use Rattle.module_constants.proofs.Reported.{override_fine, override_wrong}
use Rattle.module_constants.specs.Known.{module_in}
use Rattle.module_constants.specs.Refusals.{IsOverrideRefused}
use Rattle.ir_items.proofs.Lookups.{found}
use Rattle.module_constants.proofs.overrides.validate_override.Goals as goal

pub returns-then-not-branch-clause-refused : goal.returns-then-not-branch-clause-refused
returns-then-not-branch-clause-refused c =
    let at = found override_view c.args.context.now.module.now.overrides c.args.handle c.index-item.result.now c.index-item.ensures in (
      subst (IsOverrideRefused c.args.context.now.overrides_resolved (module_in c.args.context.now) c.args.handle) (sym c.new.ensures.error)
          (override_wrong c.args.context.now.overrides_resolved (module_in c.args.context.now) c.args.handle (override_view c.index-item.result.now) error.DuplicateID at
          (taken_is _ _ _ _ _ _ c.requires.ids c.in_ok-note_id.ensures.noted c.if-not-branch.true)),
      c.new.ensures.spans,
    )

pub check_beside_id-requires-clause-ty : goal.check_beside_id-requires-clause-ty
check_beside_id-requires-clause-ty c =
    let at = found override_view c.args.context.now.module.now.overrides c.args.handle c.index-item.result.now c.index-item.ensures in
    let below = c.requires.known.there.override_types c.args.handle (override_view c.index-item.result.now) at in
    omega (arith, below, c.requires.known.many)

pub check_beside_id-requires-clause-init : goal.check_beside_id-requires-clause-init
check_beside_id-requires-clause-init c = λ init is.
    let at = found override_view c.args.context.now.module.now.overrides c.args.handle c.index-item.result.now c.index-item.ensures in
    let below = c.requires.known.there.override_values c.args.handle init (override_view c.index-item.result.now) at is in
    omega (arith, below, c.requires.known.typed.many)

pub returns-in-Ok-clause-accepted : goal.returns-in-Ok-clause-accepted
returns-in-Ok-clause-accepted c =
    let at = found override_view c.args.context.now.module.now.overrides c.args.handle c.index-item.result.now c.index-item.ensures in
    override_fine c.args.context.now.overrides_resolved (module_in c.args.context.now) c.args.handle (override_view c.index-item.result.now) at
    (own_is _ _ _ _ _ _ c.requires.ids c.in_ok-note_id.ensures.noted c.if-not-branch.false) c.in-Ok.ensures

pub returns-in-Ok-clause-added : goal.returns-in-Ok-clause-added
returns-in-Ok-clause-added c =
    let at = found override_view c.args.context.now.module.now.overrides c.args.handle c.index-item.result.now c.index-item.ensures in
    noted_ids _ _ (override_view c.index-item.result.now) _ _ _ _ c.requires.ids at refl c.in_ok-note_id.ensures.noted

pub returns-in-Err-clause-refused : goal.returns-in-Err-clause-refused
returns-in-Err-clause-refused c =
    let at = found override_view c.args.context.now.module.now.overrides c.args.handle c.index-item.result.now c.index-item.ensures in (
      subst (IsOverrideRefused c.args.context.now.overrides_resolved (module_in c.args.context.now) c.args.handle) (sym c.new-in-Err.ensures.error)
          (override_wrong c.args.context.now.overrides_resolved (module_in c.args.context.now) c.args.handle (override_view c.index-item.result.now) c.in-Err.error at (c.in-Err.ensures c.args.handle)),
      c.new-in-Err.ensures.spans,
    )

pub returns-then-not-branch-clause-left : goal.returns-then-not-branch-clause-left
returns-then-not-branch-clause-left c =
    let at = found override_view c.args.context.now.module.now.overrides c.args.handle c.index-item.result.now c.index-item.ensures in
    more_ids _ _ _ (noted_ids _ _ (override_view c.index-item.result.now) _ _ _ _ c.requires.ids at refl c.in_ok-note_id.ensures.noted)

pub returns-in-Err-clause-left : goal.returns-in-Err-clause-left
returns-in-Err-clause-left c =
    let at = found override_view c.args.context.now.module.now.overrides c.args.handle c.index-item.result.now c.index-item.ensures in
    more_ids _ _ _ (noted_ids _ _ (override_view c.index-item.result.now) _ _ _ _ c.requires.ids at refl c.in_ok-note_id.ensures.noted)
