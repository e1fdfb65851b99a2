use Rattle.std.proofs.Common.{◌≡◌, arith, length}
use Rattle.module_context.proofs.Constness.{past_the_last}
use Rattle.module_context.proofs.Lookups.{many_viewed}
use Rattle.function_interface.proofs.Known.{known_early, unknown_past}
use Rattle.ir_types.specs.judged.ExpressionPlain.{expression_view}
use Rattle.function_statement_checks.specs.View.{context_view}
use Rattle.function_interface.proofs.locals.is_known.Goals as goal

pub returns-then-index-len : goal.returns-then-index-len
returns-then-index-len c =
    let is = c.is_const_or_override.ensures in
    let known = known_early (context_view c.args.context.now).f.expressions c.args.context.now.kinds.now c.args.handle c.requires.kinds in
    (λ t. known.0 (is.0 t), λ k. is.1 (known.1 k))

pub returns-else-index-len : goal.returns-else-index-len
returns-else-index-len c =
    let many : length (context_view c.args.context.now).f.expressions ≡ length c.args.context.now.function.now.expressions = many_viewed expression_view c.args.context.now.function.now.expressions in
    past_the_last c.index.result c.len.result _ c.if-index-len.false
    (λ k. unknown_past (context_view c.args.context.now).f.expressions c.args.handle (omega (arith, many, c.if-index-len.false, c.index.ensures.value, c.len.ensures.value)) k)
