use Rattle.std.proofs.Common.{rules, ◌≡◌, Some}
use Rattle.ir_items.specs.found.View.{function_view}
use Rattle.function_body_checks.proofs.Tables.{reported_known, reported_unknown}
use Rattle.function_strict_scope.proofs.Statements.{condition_known, condition_fault}
use Rattle.function_strict_scope.proofs.statement.check_condition.Goals as goal

pub returns-then-is_known-clause-used : goal.returns-then-is_known-clause-used
returns-then-is_known-clause-used c =
    let f = function_view c.args.function.now in
    let is : c.args.break_if ≡ Some c.in-Some.handle = search rules in
    condition_known f c.args.sure.now c.args.break_if c.in-Some.handle is (reported_known f c.args.sure.now c.in-Some.handle c.is_known.result c.is_known.ensures c.if-is_known.true)

pub returns-else-is_known-clause-fault : goal.returns-else-is_known-clause-fault
returns-else-is_known-clause-fault c =
    let f = function_view c.args.function.now in
    let is : c.args.break_if ≡ Some c.in-Some.handle = search rules in
    condition_fault f c.args.sure.now c.args.break_if c.in-Some.handle is (reported_unknown f c.args.sure.now c.in-Some.handle c.is_known.result c.is_known.ensures c.if-is_known.false)
