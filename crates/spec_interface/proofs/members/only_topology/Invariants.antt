use Rattle.std.proofs.Common.{map, take}
use Rattle.spec_interface.specs.found.Found.{Stands}
use Rattle.ir_types.specs.judged.Plain.{member_view}
use Rattle.spec_interface.specs.found.Members.{member_topologies}
use Rattle.spec_interface.proofs.members.only_topology.Given as goal

-- the result for the members before this one
abbrev pub invariant-loop-member : goal.invariant-loop-member
invariant-loop-member l = Stands l.found (member_topologies (map member_view (take l.member-index l.members)))
