use Rattle.std.proofs.Common.{rules, ◌≡◌, None}
use Rattle.ir_items.specs.found.View.{function_view}
use Rattle.function_body_checks.proofs.Tables.{all_placed}
use Rattle.function_body_checks.specs.Carried.{known, place_lacking}
use Rattle.function_body_checks.proofs.statement.argument_error.Goals as goal

pub returns-in-None-clause-none : goal.returns-in-None-clause-none
returns-in-None-clause-none c =
    let f = function_view c.args.function.now in
    let is : None ≡ place_lacking (known f c.args.scope.now) 0 c.args.arguments.now = search rules in
    all_placed f c.args.scope.now c.args.arguments.now is
