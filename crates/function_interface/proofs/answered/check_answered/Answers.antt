use Rattle.std.proofs.Common.{◌≡◌, Some, slice_get, sym, subst, arith}
use Rattle.module_context.proofs.Lookups.{found, many_viewed}
use Rattle.function_interface.proofs.AnsweredLemmas.{one_unanswered, answered_more, answered_all}
use Rattle.function_interface.specs.Answered.{IsUnanswered}
use Rattle.ir_types.specs.judged.ExpressionPlain.{expression_view}
use Rattle.ir_items.specs.found.View.{function_view}
use Rattle.function_interface.proofs.answered.check_answered.Goals as goal

pub returns-then-not-is_answered : goal.returns-then-not-is_answered
returns-then-not-is_answered c =
    let at = found expression_view c.args.function.now.expressions c.at-handle.result c.index.result.now c.index.ensures in
    let here = subst (λ n. slice_get (function_view c.args.function.now).expressions n ≡ Some (expression_view c.index.result.now)) c.at-handle.ensures at in
    subst (IsUnanswered (function_view c.args.function.now).expressions c.args.answered.now) (sym c.at-handle.ensures)
    (one_unanswered (function_view c.args.function.now).expressions c.args.answered.now c.loop-index.index (expression_view c.index.result.now) c.is_answered.result here c.is_answered.ensures c.if-not-is_answered.true c.loop-index.invariant)

pub loop-index-preserved : goal.loop-index-preserved
loop-index-preserved c =
    let at = found expression_view c.args.function.now.expressions c.at-handle.result c.index.result.now c.index.ensures in
    let here = subst (λ n. slice_get (function_view c.args.function.now).expressions n ≡ Some (expression_view c.index.result.now)) c.at-handle.ensures at in
    answered_more (function_view c.args.function.now).expressions c.args.answered.now c.loop-index.index (expression_view c.index.result.now) c.loop-index.invariant here
    (c.is_answered.ensures.0 c.if-not-is_answered.false)

pub returns : goal.returns
returns c =
    answered_all (function_view c.args.function.now).expressions c.args.answered.now c.loop-index.index
    (omega (arith, many_viewed expression_view c.args.function.now.expressions, c.len-index-end.ensures.value, c.loop-index-test.false)) c.loop-index.invariant
