use Rattle.std.proofs.Common.{rules, ℕ, List}
use Rattle.ir_blocks.specs.judged.Places.{statement as spot}
use Rattle.ir_blocks.specs.found.View.{statement_view}
use Rattle.ir_items.specs.found.View.{function_view}
use Rattle.function_strict_scope.proofs.Errors.{if_fault_then}
use Rattle.function_strict_scope.specs.Walked.{IfFault, IsFaultHere}
use Rattle.function_strict_scope.proofs.statement.check_own.Goals as goal

pub returns-in_err-check_answer-clause-fault : goal.returns-in_err-check_answer-clause-fault
returns-in_err-check_answer-clause-fault c =
    let f = function_view c.args.function.now in
    let s = statement_view c.args.statement.now in
    let told : IfFault c.in_err-check_answer.field-0.0 (IsFaultHere f (spot s) c.args.sure.now) =
    if_fault_then c.in_err-check_answer.field-0.0 (λ e. (sure : List ℕ) → IsFaultHere f (spot s) sure e) (IsFaultHere f (spot s) c.args.sure.now) (λ e wrong. wrong c.args.sure.now) c.in_err-check_answer.ensures.fault in
    search rules
