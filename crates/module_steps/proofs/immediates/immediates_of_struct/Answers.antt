use Rattle.std.proofs.Common.{map, arith}
use Rattle.ir_types.specs.judged.Plain.{member_view}
use Rattle.module_steps.proofs.LayoutLaws.{fit_struct}
use Rattle.module_steps.specs.Layouts.{FitsAt}
use Rattle.module_type_checks.proofs.Places.{below_more, below_all}
use Rattle.module_type_checks.specs.Known.{tree_in}
use Rattle.module_type_checks.specs.Placed.{parts_in}
use Rattle.module_steps.proofs.immediates.immediates_of_struct.Goals as goal

pub loop-place-preserved : goal.loop-place-preserved
loop-place-preserved c =
    below_more FitsAt (parts_in c.args.context.now (map member_view c.args.members.now)) c.loop-place.place c.loop-place.invariant c.in_ok-immediates_of_member.ensures

pub returns : goal.returns
returns c =
    fit_struct c.args.context.now (map member_view c.args.members.now) c.args.handle c.requires.own
    (below_all FitsAt (tree_in c.args.context.now) c.args.members.now c.loop-place.place c.loop-place.invariant (omega arith))
