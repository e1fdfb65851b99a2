use Rattle.std.proofs.Common.{◌+◌, map, take, sym, subst, ◌∙◌, ap}
use Rattle.spec_interface.proofs.Finds.{found_more}
use Rattle.spec_interface.specs.found.Found.{Stands}
use Rattle.ir_types.specs.judged.Plain.{PlainMember, member_view}
use Rattle.spec_interface.specs.judged.Members.{topology_of}
use Rattle.spec_interface.specs.found.Members.{member_topologies}
use Rattle.spec_interface.proofs.members.only_topology.Goals as goal

pub loop-member-preserved : goal.loop-member-preserved
loop-member-preserved c =
    subst (λ f. Stands f (member_topologies (map member_view (take (c.loop-member.member-index + 1) c.args.members.now)))) (sym c.next-found.ensures)
    (found_more member_view (λ (m : PlainMember). topology_of m.binding) c.args.members.now c.loop-member.member-index c.member-item.result c.topology_of.result c.loop-member.found c.loop-member-test.true
    (c.topology_of.ensures ∙ ap (λ m. topology_of (member_view m).binding) c.member-item.is) c.loop-member.invariant)
