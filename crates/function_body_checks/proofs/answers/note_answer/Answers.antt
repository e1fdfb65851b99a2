use Rattle.std.proofs.Common.{rules, ◌≡◌, Some, false, inl, inr}
use Rattle.ir_blocks.specs.found.View.{statement_view}
use Rattle.spec_statements.specs.judged.Results.{answer_of}
use Rattle.function_body_checks.proofs.Tables.{was_there}
use Rattle.function_body_checks.proofs.answers.note_answer.Goals as goal

pub returns-then-not-asked-clause-fault : goal.returns-then-not-asked-clause-fault
returns-then-not-asked-clause-fault c =
    let is : answer_of (statement_view c.args.statement.now) ≡ Some c.in-Some.handle = search rules in
    let unasked : c.args.asked ≡ false = search rules in
    c.populated.ensures c.args.asked c.args.answered.now is (inl unasked)

pub returns-then-not-branch-clause-fault : goal.returns-then-not-branch-clause-fault
returns-then-not-branch-clause-fault c =
    let is : answer_of (statement_view c.args.statement.now) ≡ Some c.in-Some.handle = search rules in
    let there : c.in_ok-insert.field-0 ≡ false = search rules in
    c.populated-then-not-branch.ensures c.args.asked c.args.answered.now is (inr (was_there c.args.answered.now _ c.in-Some.handle c.in_ok-insert.field-0 c.in_ok-insert.ensures there))
