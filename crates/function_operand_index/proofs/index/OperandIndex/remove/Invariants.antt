use Rattle.std.proofs.Common.{◌-◌, ◌≡◌, ◌<◌, ◌≤◌, ℕ, true, false, slice_index_or}
use Rattle.std.specs.FinSet as set
use Rattle.function_operand_index.specs.Runs.{AreRuns}
use Rattle.function_operand_index.proofs.index.OperandIndex.remove.Given as goal

-- what does not lack did not lack before, and before the place it is none of those; what is none of those lacks only if it did before
abbrev pub invariant-loop-place : goal.invariant-loop-place
invariant-loop-place l = record {
  operands : l.self.operands ≡ l.fn.self.operands;
  users : l.self.users ≡ l.fn.self.users;
  operand_runs : AreRuns l.self.operands.items l.self.by_operand;
  user_runs : AreRuns l.self.users.items l.self.by_user;
  within : l.place ≤ l.count;
  kept : (k : ℕ) → set.contains l.self.lacking k ≡ false → set.contains l.fn.self.lacking k ≡ false;
  left : (k : ℕ) → k < l.place → set.contains l.self.lacking k ≡ false → l.from ≤ slice_index_or l.fn.self.operands.items k 0 → slice_index_or l.fn.self.operands.items k 0 < l.end → ⊥;
  others : (k : ℕ) → set.contains l.self.lacking k ≡ true → (l.from ≤ slice_index_or l.fn.self.operands.items k 0 → slice_index_or l.fn.self.operands.items k 0 < l.end → ⊥) → set.contains l.fn.self.lacking k ≡ true;
}

abbrev pub decreases-loop-place : goal.decreases-loop-place
decreases-loop-place l = l.count - l.place
