use Rattle.module_context.specs.OperandView.{types_in}
use Rattle.module_expression_checks.proofs.OldValues.{by_test}
use Rattle.spec_statements.specs.judged.ExpressionResults.{IsAtomicValue}
use Rattle.typing_forms.specs.judged.Resolutions.{inner_at}
use Rattle.module_expression_checks.proofs.results.is_atomic_exchange.Goals as goal

pub returns-in-Some : goal.returns-in-Some
returns-in-Some c = by_test (IsAtomicValue c.args.context.now.capabilities) (types_in c.args.context.now)
    (inner_at (types_in c.args.context.now) c.args.ty) c.in-Some.old c.is_atomic_value.result c.in-Some.ensures c.is_atomic_value.ensures
