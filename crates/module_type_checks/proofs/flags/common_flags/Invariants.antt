-- The flags that all members so far have.
use Rattle.std.proofs.Common.{map}
use Rattle.ir_types.specs.judged.Plain.{member_view}
use Rattle.module_type_checks.specs.Sets.{CommonBelow}
use Rattle.module_type_checks.proofs.flags.common_flags.Given as goal

abbrev pub invariant-loop-place : goal.invariant-loop-place
invariant-loop-place l = CommonBelow l.context (map member_view l.members) l.common l.place
