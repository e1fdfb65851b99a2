use Rattle.std.proofs.Common.{◌≡◌, arith, length}
use Rattle.module_context.proofs.Constness.{constant_at, none_past, past_the_last}
use Rattle.module_context.proofs.Lookups.{many_viewed}
use Rattle.ir_types.specs.judged.ExpressionPlain.{expression_view}
use Rattle.module_context.specs.OperandView.{expressions_in}
use Rattle.check_image_causes.proofs.image_samples.is_const.Goals as goal

pub returns-then-index-len : goal.returns-then-index-len
returns-then-index-len c =
    let is = c.is_const.ensures in
    let known = constant_at (expressions_in c.args.context.now) c.args.context.now.kinds.now c.args.handle c.requires in
    (λ t. known.0 (is.0 t), λ k. is.1 (known.1 k))

pub returns-else-index-len : goal.returns-else-index-len
returns-else-index-len c =
    let many : length (expressions_in c.args.context.now) ≡ length c.args.context.now.expressions.now = many_viewed expression_view c.args.context.now.expressions.now in
    past_the_last c.index.result c.len.result _ c.if-index-len.false
    (λ k. none_past (expressions_in c.args.context.now) c.args.handle (omega (arith, many, c.if-index-len.false, c.index.ensures.value, c.len.ensures.value)) k)
