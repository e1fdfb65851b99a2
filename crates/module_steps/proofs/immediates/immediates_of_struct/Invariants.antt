-- The members so far are allowed.
use Rattle.std.proofs.Common.{map}
use Rattle.ir_types.specs.judged.Plain.{member_view}
use Rattle.module_steps.specs.Layouts.{FitsAt}
use Rattle.module_type_checks.specs.Placed.{parts_in, Below}
use Rattle.module_steps.proofs.immediates.immediates_of_struct.Given as goal

abbrev pub invariant-loop-place : goal.invariant-loop-place
invariant-loop-place l = Below FitsAt (parts_in l.context (map member_view l.members)) l.place
