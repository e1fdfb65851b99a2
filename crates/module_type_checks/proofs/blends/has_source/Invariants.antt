-- No member so far has a blend source.
use Rattle.std.proofs.Common.{map}
use Rattle.ir_types.specs.judged.Plain.{member_view}
use Rattle.module_type_checks.proofs.Sources.{NoneBelow}
use Rattle.module_type_checks.proofs.blends.has_source.Given as goal

abbrev pub invariant-loop-place : goal.invariant-loop-place
invariant-loop-place l = NoneBelow (map member_view l.members) l.place
