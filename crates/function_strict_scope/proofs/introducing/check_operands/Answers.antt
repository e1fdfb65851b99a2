use Rattle.std.proofs.Common.{rules, ◌≡◌, None, Some, inl, refl, slice_get}
use Rattle.ir_items.specs.found.View.{function_view}
use Rattle.function_body_checks.proofs.Tables.{all_known, not_known}
use Rattle.function_body_checks.specs.Carried.{known, first_lacking}
use Rattle.function_strict_scope.specs.Tables.{operands_given}
use Rattle.function_strict_scope.proofs.introducing.check_operands.Goals as goal

pub returns-in-Some-clause-fault : goal.returns-in-Some-clause-fault
returns-in-Some-clause-fault c =
    let f = function_view c.args.function.now in
    let operands = operands_given (slice_get f.expressions c.args.handle) in
    let is : Some c.in-Some.operand ≡ first_lacking (known f c.args.sure.now) operands = search rules in
    (refl, inl (not_known f c.args.sure.now operands c.in-Some.operand is))

pub returns-in-None-clause-known : goal.returns-in-None-clause-known
returns-in-None-clause-known c =
    let f = function_view c.args.function.now in
    let operands = operands_given (slice_get f.expressions c.args.handle) in
    let is : None ≡ first_lacking (known f c.args.sure.now) operands = search rules in
    all_known f c.args.sure.now operands is
