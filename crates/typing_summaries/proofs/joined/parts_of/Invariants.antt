-- What was computed so far, followed by the rest's parts, is the parts of all.
use Rattle.std.proofs.Common.{◌≡◌, ◌++◌, drop, map}
use Rattle.ir_types.specs.judged.ExpressionPlain.{expression_view}
use Rattle.ir_items.specs.found.GlobalView.{values_of}
use Rattle.spec_expressions.specs.judged.CallChains.{global_or_argument}
use Rattle.typing_summaries.specs.Parts.{parts_of}
use Rattle.typing_summaries.proofs.joined.parts_of.Given as goal

abbrev pub invariant-loop-index : goal.invariant-loop-index
invariant-loop-index l =
    let meaning = global_or_argument (map expression_view (values_of l.expressions)) in
    (l.parts.items ++ parts_of meaning (drop l.index l.marks) (drop l.index l.arguments)) ≡ parts_of meaning l.marks l.arguments
