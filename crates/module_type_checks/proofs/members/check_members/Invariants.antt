-- The members so far are valid at their indices.
use Rattle.std.proofs.Common.{map}
use Rattle.ir_types.specs.judged.Plain.{member_view}
use Rattle.typing_layout.specs.judged.Structs.{MemberOK}
use Rattle.module_type_checks.specs.Placed.{parts_in, Below}
use Rattle.module_type_checks.proofs.members.check_members.Given as goal

abbrev pub invariant-loop-place : goal.invariant-loop-place
invariant-loop-place l = Below (MemberOK (parts_in l.context (map member_view l.members)) l.span) (parts_in l.context (map member_view l.members)) l.place
