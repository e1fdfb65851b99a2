-- The rest has a source where all have one.
use Rattle.std.proofs.Common.{◌≡◌, drop, map}
use Rattle.ir_types.specs.judged.Plain.{member_view}
use Rattle.spec_interface.specs.judged.Varyings.{has_source}
use Rattle.function_varying_checks.proofs.spread.has_source.Given as goal

abbrev pub invariant-loop-member : goal.invariant-loop-member
invariant-loop-member l = has_source (map member_view (drop l.member-index l.members)) ≡ has_source (map member_view l.members)
