-- The entries written so far are the first indices that pass, from each index on.
use Rattle.std.proofs.Common.{◌≡◌, ℕ, ◌<◌, ◌≤◌, length, slice_index_or}
use Rattle.ir_sets.specs.Next.{IsNext}
use Rattle.ir_sets.proofs.next.next_passing.Given as goal

abbrev pub invariant-loop-place : goal.invariant-loop-place
invariant-loop-place g l = record {
  len : length l.next.items ≡ l.count;
  within : l.place ≤ l.count;
  first : IsNext (g.T.PlaceTest.passes l.test) l.count l.place l.first;
  each : (k : ℕ) → l.place ≤ k → k < l.count → IsNext (g.T.PlaceTest.passes l.test) l.count k (slice_index_or l.next.items k 0);
}

abbrev pub decreases-loop-place : goal.decreases-loop-place
decreases-loop-place g l = l.place
