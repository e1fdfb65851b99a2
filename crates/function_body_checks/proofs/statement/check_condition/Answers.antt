use Rattle.std.proofs.Common.{rules, ◌≡◌, Some, refl}
use Rattle.typing_errors.specs.declared.expressions.ExpressionError.TheVariants.{NotInScope}
use Rattle.typing_errors.specs.declared.error.FunctionError.TheVariants.{Expression}
use Rattle.ir_items.specs.found.View.{function_view}
use Rattle.function_body_checks.proofs.Tables.{condition_known, condition_unknown, reported_known, reported_unknown}
use Rattle.function_body_checks.proofs.statement.check_condition.Goals as goal

pub returns-then-is_known-clause-used : goal.returns-then-is_known-clause-used
returns-then-is_known-clause-used c =
    let f = function_view c.args.function.now in
    let is : c.args.break_if ≡ Some c.in-Some.handle = search rules in
    condition_known f c.args.carried.now.scope c.args.break_if c.in-Some.handle is (reported_known f c.args.carried.now.scope c.in-Some.handle c.is_known.result c.is_known.ensures c.if-is_known.true)

pub returns-else-is_known-clause-fault : goal.returns-else-is_known-clause-fault
returns-else-is_known-clause-fault c =
    let f = function_view c.args.function.now in
    let is : c.args.break_if ≡ Some c.in-Some.handle = search rules in
    condition_unknown f c.args.asked c.args.carried.now.scope c.args.carried.now.answered c.args.break_if c.in-Some.handle (Expression c.in-Some.handle NotInScope) is
    (reported_unknown f c.args.carried.now.scope c.in-Some.handle c.is_known.result c.is_known.ensures c.if-is_known.false) refl
