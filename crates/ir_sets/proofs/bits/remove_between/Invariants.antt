use Rattle.std.proofs.Common.{false, ◌-◌, ◌≡◌, ◌≤◌, length, max}
use Rattle.ir_sets.specs.Bits.{has_bit, Becomes}
use Rattle.ir_sets.proofs.bits.remove_between.Given as goal

abbrev pub invariant-loop-place : goal.invariant-loop-place
invariant-loop-place l = (l.from ≤ l.place) × (l.place ≤ max l.from l.end) × (length l.words ≡ length l.fn.words) × Becomes false (has_bit l.fn.words) (has_bit l.words) l.from l.place

abbrev pub decreases-loop-place : goal.decreases-loop-place
decreases-loop-place l = l.end - l.place
