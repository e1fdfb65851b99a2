-- The member found is the only one so far.
use Rattle.std.proofs.Common.{map}
use Rattle.ir_types.specs.judged.Plain.{member_view}
use Rattle.module_type_checks.specs.Blends.{IsSoleBelow}
use Rattle.module_type_checks.proofs.blends.sole_source.Given as goal

abbrev pub invariant-loop-place : goal.invariant-loop-place
invariant-loop-place l = IsSoleBelow (map member_view l.members) l.blend_src l.found l.place
