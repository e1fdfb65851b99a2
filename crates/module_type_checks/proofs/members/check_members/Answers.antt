use Rattle.std.proofs.Common.{◌≢◌, [], map, arith, rules}
use Rattle.ir_types.specs.judged.Plain.{member_view}
use Rattle.typing_layout.specs.judged.Structs.{MemberOK}
use Rattle.module_type_checks.specs.Known.{tree_in}
use Rattle.module_type_checks.specs.Placed.{parts_in}
use Rattle.module_type_checks.proofs.PlacedLaws.{parts_some}
use Rattle.module_type_checks.proofs.Places.{below_more, below_all}
use Rattle.module_type_checks.proofs.members.check_members.Goals as goal

pub loop-place-preserved : goal.loop-place-preserved
loop-place-preserved c =
    below_more (MemberOK (parts_in c.args.context.now (map member_view c.args.members.now)) c.args.span) (parts_in c.args.context.now (map member_view c.args.members.now)) c.loop-place.place c.loop-place.invariant
    c.in_ok-check_member.ensures

pub returns : goal.returns
returns c =
    let some : c.args.members.now ≢ [] = search rules in
    record {
      some = parts_some c.args.context.now c.args.members.now some;
      each = below_all (MemberOK (parts_in c.args.context.now (map member_view c.args.members.now)) c.args.span) (tree_in c.args.context.now) c.args.members.now c.loop-place.place c.loop-place.invariant (omega arith);
    }
