-- The members so far have no other locations.
use Rattle.std.proofs.Common.{map}
use Rattle.ir_types.specs.judged.Plain.{member_view}
use Rattle.module_type_checks.proofs.Sources.{LocatedBelow}
use Rattle.module_type_checks.proofs.blends.check_locations.Given as goal

abbrev pub invariant-loop-place : goal.invariant-loop-place
invariant-loop-place l = LocatedBelow (map member_view l.members) l.place
