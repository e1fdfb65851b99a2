-- The marked arguments before this index are passed on unchanged.
use Rattle.std.proofs.Common.{◌≡◌, ℕ, ◌<◌, true, map, Some, slice_get}
use Rattle.ir_types.specs.judged.ExpressionPlain.{expression_view}
use Rattle.ir_items.specs.found.GlobalView.{values_of}
use Rattle.spec_expressions.specs.judged.CallChains.{global_or_argument}
use Rattle.typing_summaries.specs.Passed.{PassesOn}
use Rattle.typing_summaries.proofs.pairs.passes_marked_on.Given as goal

abbrev pub invariant-loop-number : goal.invariant-loop-number
invariant-loop-number l = (n : ℕ) → n < l.number → slice_get l.marks n ≡ Some true → PassesOn (global_or_argument (map expression_view (values_of l.expressions))) l.arguments n
