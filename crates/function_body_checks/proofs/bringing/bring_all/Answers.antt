use Rattle.std.proofs.Common.{rules, ◌≡◌, IfOk, Some, subst}
use Rattle.ir_blocks.specs.found.View.{statement_view}
use Rattle.ir_items.specs.found.View.{function_view}
use Rattle.typing_references.specs.First.{emitted_view}
use Rattle.spec_expressions.specs.judged.StatementNames.{statement_range}
use Rattle.function_body_checks.proofs.Tables.{emitted}
use Rattle.function_body_checks.specs.Carried.{AreBrought}
use Rattle.function_body_checks.proofs.bringing.bring_all.Goals as goal

pub returns-in-Some : goal.returns-in-Some
returns-in-Some c =
    let is : Some (emitted_view c.in-Some.range) ≡ statement_range (statement_view c.args.statement.now) = search rules in
    subst (λ xs. IfOk c.bring_range.result (AreBrought (function_view c.args.outline.now.function.now) c.args.scope.now c.bring_range.new.scope xs)) (emitted (statement_view c.args.statement.now) c.in-Some.range is) c.bring_range.ensures
