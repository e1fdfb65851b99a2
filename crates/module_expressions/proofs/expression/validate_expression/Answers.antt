use Rattle.module_context.proofs.Lookups.{found}
use Rattle.ir_types.specs.judged.ExpressionPlain.{expression_view}
use Rattle.module_expressions.proofs.expression.validate_expression.Goals as goal

pub returns-in-Ok : goal.returns-in-Ok
returns-in-Ok c =
    let at = found expression_view c.args.context.now.expressions.now c.args.handle c.index-expression.result.now c.index-expression.ensures in (
      record { expression = expression_view c.index-expression.result.now; at = at; met = c.in-Ok.ensures },
      record { expression = expression_view c.index-expression.result.now; at = at; run_by = c.expression_stages.ensures },
    )

pub returns-in-Err : goal.returns-in-Err
returns-in-Err c =
    let at = found expression_view c.args.context.now.expressions.now c.args.handle c.index-expression.result.now c.index-expression.ensures in
    record { expression = expression_view c.index-expression.result.now; at = at; fault = c.in-Err.ensures }
