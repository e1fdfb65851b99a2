use Rattle.std.proofs.Common.{◌≡◌, ℕ, ◌≤◌, length, get_or}
use Rattle.ir_sets.proofs.bits.trim.Given as goal

abbrev pub invariant-loop-count : goal.invariant-loop-count
invariant-loop-count l = (l.count ≤ length l.words.items) × ((k : ℕ) → l.count ≤ k → get_or l.words.items k 0 ≡ 0)

abbrev pub decreases-loop-count : goal.decreases-loop-count
decreases-loop-count l = l.count
