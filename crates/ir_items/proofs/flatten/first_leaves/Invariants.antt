-- The leaves found so far, followed by those of the stack, are the leaves of all.
use Rattle.std.proofs.Common.{◌<◌, ◌≤◌, ◌++◌, List, ℕ, length, reverse}
use Rattle.std.specs.List.{All}
use Rattle.ir_items.specs.judged.Bases.{expressions_of}
use Rattle.ir_items.specs.found.Flat.{AreLeaves}
use Rattle.ir_items.proofs.FlatLemmas.{total, steps}
use Rattle.ir_items.proofs.flatten.first_leaves.Given as goal

abbrev pub invariant-loop-ahead : goal.invariant-loop-ahead
invariant-loop-ahead l = record {
  in_arena : All (λ handle. handle < length l.expressions) l.ahead.items;
  few : length l.leaves.items ≤ l.most;
  behind : (leaves : List ℕ) → AreLeaves (expressions_of l.expressions) (reverse l.ahead.items) leaves → AreLeaves (expressions_of l.expressions) l.components (l.leaves.items ++ leaves);
}

abbrev pub decreases-loop-ahead : goal.decreases-loop-ahead
decreases-loop-ahead l = total (λ handle. steps (expressions_of l.expressions) (length l.expressions) handle) l.ahead.items
