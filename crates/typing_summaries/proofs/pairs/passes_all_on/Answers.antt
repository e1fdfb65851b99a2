use Rattle.std.proofs.Common.{◌≡◌, map}
use Rattle.ir_types.specs.judged.ExpressionPlain.{expression_view}
use Rattle.ir_items.specs.found.GlobalView.{values_of}
use Rattle.spec_expressions.specs.judged.CallChains.{global_or_argument}
use Rattle.typing_summaries.proofs.Joining.{all_same}
use Rattle.typing_summaries.proofs.pairs.passes_all_on.Goals as goal

pub returns-in-Some-clause-same : goal.returns-in-Some-clause-same
returns-in-Some-clause-same c = λ t.
    all_same (global_or_argument (map expression_view (values_of c.args.expressions.now))) c.args.arguments.now c.args.callee.now.items c.in-Some.marks.now c.in-Some.ensures.marked (c.passes_marked_on.ensures t)
