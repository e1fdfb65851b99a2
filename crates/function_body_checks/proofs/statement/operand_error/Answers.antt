use Rattle.std.proofs.Common.{rules, ◌≡◌, None, Some, refl}
use Rattle.typing_errors.specs.declared.expressions.ExpressionError.TheVariants.{NotInScope}
use Rattle.typing_errors.specs.declared.error.FunctionError.TheVariants.{Expression}
use Rattle.std.proofs.lemmas.Option.{IfSome_then}
use Rattle.ir_blocks.specs.found.View.{statement_view}
use Rattle.ir_items.specs.found.View.{function_view}
use Rattle.spec_expressions.specs.judged.StatementNames.{statement_callee}
use Rattle.spec_statements.specs.judged.Tables.{statement_checked}
use Rattle.function_body_checks.proofs.FaultLaws.{argument_fault, if_fault_then}
use Rattle.function_body_checks.proofs.Tables.{all_known, not_known, operand_unknown}
use Rattle.function_body_checks.specs.Carried.{known, first_lacking}
use Rattle.function_body_checks.proofs.statement.operand_error.Goals as goal

pub returns-in-Some-clause-found : goal.returns-in-Some-clause-found
returns-in-Some-clause-found c =
    let f = function_view c.args.function.now in
    let s = statement_view c.args.statement.now in
    let callee : statement_callee s ≡ Some c.in-Some.callee = search rules in
    IfSome_then c.argument_error.result c.argument_error.ensures.found
    (λ r wrong. if_fault_then r _ _ (λ e told asked answered. argument_fault f asked s c.args.scope.now answered c.in-Some.callee c.arguments_of.result.now e callee (c.arguments_of.ensures c.in-Some.callee callee) told) wrong)

pub returns-in-Some-unknown_operand-clause-found : goal.returns-in-Some-unknown_operand-clause-found
returns-in-Some-unknown_operand-clause-found c =
    let f = function_view c.args.function.now in
    let s = statement_view c.args.statement.now in
    let other : statement_callee s ≡ None = search rules in
    let is : Some c.in-Some-unknown_operand.handle ≡ first_lacking (known f c.args.scope.now) (statement_checked s) = search rules in
    λ asked answered. operand_unknown f asked c.args.scope.now answered s c.in-Some-unknown_operand.handle (Expression c.in-Some-unknown_operand.handle NotInScope) other (not_known f c.args.scope.now (statement_checked s) c.in-Some-unknown_operand.handle is) refl

pub returns-in-None-unknown_operand-clause-none : goal.returns-in-None-unknown_operand-clause-none
returns-in-None-unknown_operand-clause-none c =
    let f = function_view c.args.function.now in
    let s = statement_view c.args.statement.now in
    let is : None ≡ first_lacking (known f c.args.scope.now) (statement_checked s) = search rules in
    all_known f c.args.scope.now (statement_checked s) is
