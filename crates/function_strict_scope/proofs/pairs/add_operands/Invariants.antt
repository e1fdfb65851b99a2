use Rattle.std.proofs.Common.{◌≡◌, ℕ, length, drop}
use Rattle.ir_items.specs.found.View.{function_view}
use Rattle.function_operand_index.specs.Index.{ArePaired}
use Rattle.function_strict_scope.proofs.LiveLemmas.{LeadsPaired}
use Rattle.function_strict_scope.proofs.pairs.add_operands.Given as goal

-- each of the operands is paired, or still to come
abbrev pub invariant-loop-operand : goal.invariant-loop-operand
invariant-loop-operand l = record {
  len : length l.pairs.users.items ≡ length l.pairs.operands.items;
  kept : (o e : ℕ) → ArePaired l.fn.pairs.operands.items l.fn.pairs.users.items o e → ArePaired l.pairs.operands.items l.pairs.users.items o e;
  added : LeadsPaired (function_view l.function) l.whole l.place l.pairs.operands.items l.pairs.users.items l.operands (drop l.operand-index l.operands);
}
