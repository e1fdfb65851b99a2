-- The members so far have valid offsets for their types.
use Rattle.std.proofs.Common.{map}
use Rattle.ir_types.specs.judged.Plain.{member_view}
use Rattle.module_steps.specs.Layouts.{StoragePart}
use Rattle.module_type_checks.specs.Placed.{parts_in, Below}
use Rattle.module_steps.proofs.storage.storage_of_struct.Given as goal

abbrev pub invariant-loop-place : goal.invariant-loop-place
invariant-loop-place l = Below StoragePart (parts_in l.context (map member_view l.members)) l.place
