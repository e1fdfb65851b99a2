use Rattle.std.proofs.Common.{◌-◌, ◌≤◌}
use Rattle.ir_sets.specs.Bits.{has_bit, NoneBetween}
use Rattle.ir_sets.proofs.bits.first_between.Given as goal

abbrev pub invariant-loop-place : goal.invariant-loop-place
invariant-loop-place l = (l.from ≤ l.place) × NoneBetween (has_bit l.words) l.from l.place

abbrev pub decreases-loop-place : goal.decreases-loop-place
decreases-loop-place l = l.end - l.place
