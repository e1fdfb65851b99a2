-- The members so far have valid offsets for their types.
use Rattle.std.proofs.Common.{map}
use Rattle.ir_types.specs.judged.Plain.{member_view}
use Rattle.module_steps.specs.Layouts.{UniformPart}
use Rattle.module_type_checks.specs.Placed.{parts_in, Below}
use Rattle.module_steps.proofs.uniform.uniform_of_struct.Given as goal

abbrev pub invariant-loop-place : goal.invariant-loop-place
invariant-loop-place l = Below (UniformPart (parts_in l.context (map member_view l.members))) (parts_in l.context (map member_view l.members)) l.place
