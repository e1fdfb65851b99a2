use Rattle.std.proofs.Common.{◌≡◌, map}
use Rattle.std.specs.Prelude.{take}
use Rattle.ir_types.specs.judged.Plain.{member_view}
use Rattle.ir_types.proofs.types.clone_members.Given as goal

-- the copies so far are equal to the members before the present one
abbrev pub invariant-loop-member : goal.invariant-loop-member
invariant-loop-member l = map member_view l.copies.items ≡ map member_view (take l.member-index l.members)
