use Rattle.module_context.proofs.Lookups.{found}
use Rattle.ir_types.specs.judged.ExpressionPlain.{expression_view}
use Rattle.function_modules.proofs.real.RealLowerLower.check_expression.Goals as goal

pub returns-in-Ok : goal.returns-in-Ok
returns-in-Ok c =
    let at = found expression_view c.args.context.now.function.now.expressions c.args.expression c.index.result.now c.index.ensures in (
      c.in-Ok.ensures.0,
      record { expression = expression_view c.index.result.now; at = at; run_by = c.expression_stages.ensures },
    )
