use Rattle.std.proofs.Common.{◌≡◌, ◌+◌, ◌/◌, ◌<◌, ◌≤◌, ℕ, length, slice_index_or}
use Rattle.function_operand_index.proofs.runs.far_highs.Given as goal

-- none of the numbers before the place is greater than that of its run
abbrev pub invariant-loop-place : goal.invariant-loop-place
invariant-loop-place l = record {
  len : length l.highs.items ≡ length l.numbers / 4096 + 1;
  each : (k : ℕ) → k < l.place → slice_index_or l.numbers k 0 ≤ slice_index_or l.highs.items (k / 4096) 0;
}
