-- The members so far are in order.
use Rattle.std.proofs.Common.{map}
use Rattle.ir_types.specs.judged.Plain.{member_view}
use Rattle.module_type_checks.specs.Sets.{Follows}
use Rattle.module_type_checks.specs.Placed.{parts_in, Below}
use Rattle.module_type_checks.proofs.flags.is_in_order.Given as goal

abbrev pub invariant-loop-place : goal.invariant-loop-place
invariant-loop-place l = Below (Follows (parts_in l.context (map member_view l.members))) (parts_in l.context (map member_view l.members)) l.place
