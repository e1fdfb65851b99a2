-- Each entry written is the first one from its index on that has a requirement.
use Rattle.std.proofs.Common.{◌≡◌, ℕ, ◌<◌, ◌≤◌, length, slice_index_or}
use Rattle.typing_uniformity.specs.Requiring.{asks, IsNext}
use Rattle.typing_uniformity.proofs.first_requiring.next_requiring.Given as goal

abbrev pub invariant-loop-place : goal.invariant-loop-place
invariant-loop-place l = record {
  len : length l.next.items ≡ length l.uniformities;
  within : l.place ≤ length l.uniformities;
  first : IsNext (asks l.severity l.uniformities) (length l.uniformities) l.place l.first;
  each : (k : ℕ) → l.place ≤ k → k < length l.uniformities → IsNext (asks l.severity l.uniformities) (length l.uniformities) k (slice_index_or l.next.items k 0);
}

abbrev pub decreases-loop-place : goal.decreases-loop-place
decreases-loop-place l = l.place
