use Rattle.std.proofs.Common.{arith}
use Rattle.ir_types.specs.judged.ExpressionPlain.{expression_view}
use Rattle.module_constants.proofs.Reported.{accepted_more, many_viewed}
use Rattle.module_constants.specs.Known.{module_in}
use Rattle.spec_expressions.specs.judged.GlobalExpressions.{GlobalExpressionOK}
use Rattle.module_constants.proofs.expressions.validate_const_expressions.Goals as goal

pub loop-place-init : goal.loop-place-init
loop-place-init c = λ handle lt. absurd (omega (arith, lt))

pub returns-in-Err : goal.returns-in-Err
returns-in-Err c =
    let many = many_viewed expression_view c.args.context.now.module.now.global_expressions in
    record {
      within = omega (arith, many, c.at-expression.ensures, c.loop-place-test.true, c.len-place-end.ensures.value);
      fault = c.in-Err.ensures.fault;
      not = c.in-Err.ensures.not;
      before = λ earlier lt. c.loop-place.invariant earlier (omega (arith, lt, c.at-expression.ensures));
    }

pub loop-place-preserved : goal.loop-place-preserved
loop-place-preserved c = accepted_more (GlobalExpressionOK c.args.context.now.capabilities c.args.context.now.overrides_resolved (module_in c.args.context.now)) c.loop-place.place c.at-expression.result c.loop-place.invariant c.at-expression.ensures c.in-Ok.ensures

pub returns : goal.returns
returns c =
    let many = many_viewed expression_view c.args.context.now.module.now.global_expressions in
    record { each = λ handle lt. c.loop-place.invariant handle (omega (arith, lt, many, c.loop-place-test.false, c.len-place-end.ensures.value)) }
