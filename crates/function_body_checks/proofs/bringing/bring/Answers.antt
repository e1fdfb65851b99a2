use Rattle.std.proofs.Common.{subst}
use Rattle.ir_blocks.specs.found.View.{statement_view}
use Rattle.ir_items.specs.found.View.{function_view}
use Rattle.spec_statements.specs.judged.Tables.{introduced}
use Rattle.function_body_checks.specs.Carried.{AreBrought}
use Rattle.function_body_checks.proofs.bringing.bring.Goals as goal

pub returns-in-Some-clause-fault : goal.returns-in-Some-clause-fault
returns-in-Some-clause-fault c =
    let f = function_view c.args.outline.now.function.now in
    let found = subst (AreBrought f c.args.scope.now c.bring_all.new.scope (introduced (statement_view c.args.statement.now))) c.in-Some.is c.in_ok-handle.ensures in
    c.known_already.ensures f c.args.scope.now found.0 found.1
