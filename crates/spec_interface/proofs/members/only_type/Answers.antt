use Rattle.std.proofs.Common.{◌+◌, map, take, sym, subst, ◌∙◌, ap}
use Rattle.spec_interface.proofs.Finds.{found_more}
use Rattle.spec_interface.specs.found.Found.{Stands}
use Rattle.ir_types.specs.judged.Plain.{member_view}
use Rattle.spec_interface.specs.judged.Members.{types_bound}
use Rattle.spec_interface.specs.found.Members.{type_bound}
use Rattle.spec_interface.proofs.members.only_type.Goals as goal

pub loop-member-preserved : goal.loop-member-preserved
loop-member-preserved c =
    subst (λ f. Stands f (types_bound c.args.part (map member_view (take (c.loop-member.member-index + 1) c.args.members.now)))) (sym c.next-found.ensures)
    (found_more member_view (type_bound c.args.part) c.args.members.now c.loop-member.member-index c.member-item.result c.type_bound.result c.loop-member.found c.loop-member-test.true
    (c.type_bound.ensures ∙ ap (λ m. type_bound c.args.part (member_view m)) c.member-item.is) c.loop-member.invariant)
