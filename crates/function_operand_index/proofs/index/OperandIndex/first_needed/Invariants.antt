use Rattle.std.proofs.Common.{◌-◌, ℕ, ◌<◌, length}
use Rattle.function_operand_index.specs.Index.{IsNeeded}
use Rattle.function_operand_index.proofs.index.OperandIndex.first_needed.Given as goal

-- none of the pairs before the place is needed
abbrev pub invariant-loop-place : goal.invariant-loop-place
invariant-loop-place l = (k : ℕ) → k < l.place → ¬ IsNeeded l.self.operands.items l.self.users.items l.self.lacking l.first l.end k

abbrev pub decreases-loop-place : goal.decreases-loop-place
decreases-loop-place l = length l.self.operands.items - l.place
