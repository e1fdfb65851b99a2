use Rattle.std.proofs.Common.{rules, ◌≡◌, ◌∷◌, [], None, Some}
use Rattle.std.proofs.lemmas.Result.{IfErr-weaker, on_ok_weaker}
use Rattle.ir_blocks.specs.found.View.{statement_view}
use Rattle.ir_items.specs.found.View.{function_view}
use Rattle.ir_items.specs.judged.Plain.{PlainFunction}
use Rattle.spec_expressions.specs.judged.StatementNames.{statement_range, statement_result}
use Rattle.spec_statements.specs.judged.Tables.{introduced}
use Rattle.function_strict_scope.proofs.Errors.{if_fault_then}
use Rattle.function_strict_scope.proofs.Statements.{answer_new}
use Rattle.function_strict_scope.specs.Walked.{IfFault, IsFaultOfNew, emitted_by}
use Rattle.function_strict_scope.proofs.introducing.introduce.Goals as goal

pub returns-in-Some-result_of-clause-fault : goal.returns-in-Some-result_of-clause-fault
returns-in-Some-result_of-clause-fault c =
    let f = function_view c.args.function.now in
    let s = statement_view c.args.statement.now in
    let h = c.in-Some-result_of.handle in
    let none : None ≡ statement_range s = search rules in
    let is : Some h ≡ statement_result s = search rules in
    IfErr-weaker c.add_result.result (λ r. IfFault r (λ e. (g : PlainFunction) → IsFaultOfNew g c.args.sure.now [] (h ∷ []) e)) _
    (λ r told. if_fault_then r (λ e. (g : PlainFunction) → IsFaultOfNew g c.args.sure.now [] (h ∷ []) e) (IsFaultOfNew f c.args.sure.now (emitted_by s) (introduced s))
    (λ e wrong. answer_new f s c.args.sure.now h none is e (wrong f)) told) c.add_result.ensures.fault

pub returns-in-Some-result_of-clause-live : goal.returns-in-Some-result_of-clause-live
returns-in-Some-result_of-clause-live c = on_ok_weaker c.add_result.result (λ each. each (function_view c.args.function.now) c.requires) c.add_result.ensures.live
