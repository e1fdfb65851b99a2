use Rattle.std.proofs.Common.{map, refl, arith}
use Rattle.ir_types.specs.judged.Plain.{member_view}
use Rattle.module_type_checks.proofs.FlagLaws.{common_none, common_more, common_all}
use Rattle.module_type_checks.proofs.flags.common_flags.Goals as goal

pub loop-place-init : goal.loop-place-init
loop-place-init c = common_none c.args.context.now (map member_view c.args.members.now) _ 0 refl refl

pub loop-place-preserved : goal.loop-place-preserved
loop-place-preserved c = common_more c.args.context.now (map member_view c.args.members.now) c.loop-place.common _ c.loop-place.place c.member_at.result c.loop-place.invariant c.member_at.ensures refl

pub returns : goal.returns
returns c = common_all c.args.context.now c.args.members.now c.loop-place.common c.loop-place.place c.loop-place.invariant (omega arith)
