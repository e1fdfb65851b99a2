use Rattle.std.proofs.Common.{◌-◌, ◌≡◌, ◌⊎◌, ◌<◌, ◌≤◌, ℕ, true, false, length, slice_index_or}
use Rattle.std.specs.FinSet as set
use Rattle.function_operand_index.specs.Runs.{AreRuns}
use Rattle.function_operand_index.proofs.index.OperandIndex.add.Given as goal

-- what lacks no more did not lack before, or is one of those; before the place none of those lacks, and the others are as before
abbrev pub invariant-loop-place : goal.invariant-loop-place
invariant-loop-place l = record {
  operands : l.self.operands ≡ l.fn.self.operands;
  users : l.self.users ≡ l.fn.self.users;
  operand_runs : AreRuns l.self.operands.items l.self.by_operand;
  user_runs : AreRuns l.self.users.items l.self.by_user;
  there : (k : ℕ) → k < length l.fn.self.operands.items → set.contains l.self.lacking k ≡ false
      → (set.contains l.fn.self.lacking k ≡ false) ⊎ ((l.from ≤ slice_index_or l.fn.self.operands.items k 0) × (slice_index_or l.fn.self.operands.items k 0 < l.end));
  kept : (k : ℕ) → set.contains l.fn.self.lacking k ≡ true → (l.from ≤ slice_index_or l.fn.self.operands.items k 0 → slice_index_or l.fn.self.operands.items k 0 < l.end → ⊥) → set.contains l.self.lacking k ≡ true;
  fewer : (k : ℕ) → set.contains l.fn.self.lacking k ≡ false → set.contains l.self.lacking k ≡ false;
  come : (k : ℕ) → k < l.place → k < length l.fn.self.operands.items → l.from ≤ slice_index_or l.fn.self.operands.items k 0 → slice_index_or l.fn.self.operands.items k 0 < l.end → set.contains l.self.lacking k ≡ false;
}

abbrev pub decreases-loop-place : goal.decreases-loop-place
decreases-loop-place l = l.count - l.place
