use Rattle.std.proofs.Common.{◌≡◌, drop, map}
use Rattle.ir_types.specs.judged.ExpressionPlain.{expression_view}
use Rattle.ir_items.specs.found.GlobalView.{values_of}
use Rattle.typing_summaries.specs.Pairings.{paired, pass_all_up}
use Rattle.typing_summaries.proofs.pairs.Sampled.pass_all_up.Given as goal

abbrev pub invariant-loop-pair : goal.invariant-loop-pair
invariant-loop-pair l =
    pass_all_up (map expression_view (values_of l.expressions)) l.arguments (drop l.pair-index l.pairs) (paired l.self) ≡ pass_all_up (map expression_view (values_of l.expressions)) l.arguments l.pairs (paired l.fn.self)
