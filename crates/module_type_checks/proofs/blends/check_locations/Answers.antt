use Rattle.std.proofs.Common.{map, arith}
use Rattle.ir_types.specs.judged.Plain.{member_view}
use Rattle.module_type_checks.proofs.Sources.{located_more, located_all, plain_here}
use Rattle.module_type_checks.proofs.blends.check_locations.Goals as goal

pub loop-place-preserved : goal.loop-place-preserved
loop-place-preserved c =
    located_more (map member_view c.args.members.now) c.loop-place.place (member_view c.index-members-place.result) c.loop-place.invariant
    (plain_here c.args.members.now c.loop-place.place c.index-members-place.result c.loop-place-test.true c.index-members-place.is) c.in_ok-check_location.ensures

pub returns : goal.returns
returns c = located_all c.args.members.now c.loop-place.place c.loop-place.invariant (omega arith)
