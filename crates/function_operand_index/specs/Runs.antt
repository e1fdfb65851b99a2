-- The minimum and maximum of a list's numbers, run by run.
use Rattle.std.specs.Prelude.{ℕ, ◌/◌, ◌<◌, ◌≤◌, List, length, slice_index_or}
use Rattle.function_operand_index.specs.declared.runs.Runs.{Runs}

-- no number is below the minimum of its run, or above the maximum
pub record AreRuns (numbers : List ℕ) (runs : Runs) : Type 0 where
  pub lows : (k : ℕ) → k < length numbers → slice_index_or runs.lows.items (k / 64) 0 ≤ slice_index_or numbers k 0
  pub highs : (k : ℕ) → k < length numbers → slice_index_or numbers k 0 ≤ slice_index_or runs.highs.items (k / 64) 0
  pub far_lows : (k : ℕ) → k < length numbers → slice_index_or runs.far_lows.items (k / 4096) 0 ≤ slice_index_or numbers k 0
  pub far_highs : (k : ℕ) → k < length numbers → slice_index_or numbers k 0 ≤ slice_index_or runs.far_highs.items (k / 4096) 0
