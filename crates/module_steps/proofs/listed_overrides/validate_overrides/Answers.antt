use Rattle.std.proofs.Common.{◌+◌, subst, arith}
use Rattle.ir_items.specs.found.GlobalView.{override_view}
use Rattle.module_constants.proofs.Reported.{accepted_more, many_viewed}
use Rattle.module_steps.proofs.OverrideTold.{refusal_reported}
use Rattle.module_constants.specs.Ids.{AreIds}
use Rattle.module_constants.specs.Known.{module_in}
use Rattle.spec_expressions.specs.judged.Overrides.{OverrideOK}
use Rattle.module_steps.proofs.listed_overrides.validate_overrides.Goals as goal

pub loop-place-preserved : goal.loop-place-preserved
loop-place-preserved c = (
  subst (λ n. AreIds (module_in c.args.context.now).overrides (n + 1) c.validate_override.new.ids) c.at-id.ensures c.in-Ok.ensures.added,
  accepted_more (OverrideOK c.args.context.now.overrides_resolved (module_in c.args.context.now)) c.loop-place.place c.at-id.result c.loop-place.invariant.1 c.at-id.ensures c.in-Ok.ensures.accepted,
)

pub returns-in-Err-clause-refused : goal.returns-in-Err-clause-refused
returns-in-Err-clause-refused c =
    let many = many_viewed override_view c.args.context.now.module.now.overrides in
    refusal_reported c.args.context.now.overrides_resolved (module_in c.args.context.now) c.loop-place.place c.at-id.result c.in-Err.refusal c.refusal_at.result c.at-id.ensures
    (omega (arith, many, c.loop-place-test.true, c.len-place-end.ensures.value)) c.loop-place.invariant.1 c.in-Err.ensures.refused c.refusal_at.ensures
