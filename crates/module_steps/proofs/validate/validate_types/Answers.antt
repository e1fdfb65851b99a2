use Rattle.std.proofs.Common.{arith}
use Rattle.typing_forms.specs.judged.Resolutions.{types_view}
use Rattle.module_steps.proofs.Accepted.{accepted_more, first_refused}
use Rattle.module_steps.proofs.validate.validate_types.Goals as goal

pub loop-place-preserved : goal.loop-place-preserved
loop-place-preserved c =
    accepted_more c.args.capabilities c.args.overrides_resolved (types_view c.args.types.now) c.loop-place.infos.items c.push.new.self.items c.loop-place.place c.at.result c.in-Ok.info c.loop-place.invariant
    c.at.ensures c.in-Ok.ensures c.in_ok-push-in-Ok.ensures.items

pub returns-in-Err-clause-refused : goal.returns-in-Err-clause-refused
returns-in-Err-clause-refused c = (
  first_refused c.args.capabilities c.args.overrides_resolved c.args.types.now c.loop-place.infos.items c.loop-place.place c.at.result c.in-Err.error _ c.loop-place.invariant c.at.ensures
      (omega arith) c.in-Err.ensures c.new.ensures.error,
  c.new.ensures.spans,
)
