use Rattle.std.proofs.Common.{◌≡◌, ℕ, ◌<◌, length}
use Rattle.ir_items.specs.found.View.{function_view}
use Rattle.function_strict_scope.specs.Live.{IsIndexed}
use Rattle.function_strict_scope.proofs.pairs.all_operands.Given as goal

-- the operands of the expressions before the place are indexed
abbrev pub invariant-loop-place : goal.invariant-loop-place
invariant-loop-place l = record {
  len : length l.pairs.users.items ≡ length l.pairs.operands.items;
  indexed : (e o : ℕ) → e < l.place → IsIndexed (function_view l.function) l.pairs.operands.items l.pairs.users.items e o;
}
