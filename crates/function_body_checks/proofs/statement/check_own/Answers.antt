use Rattle.std.proofs.Common.{rules, ℕ, Bool, List}
use Rattle.std.proofs.lemmas.Result.{IfErr-weaker}
use Rattle.ir_blocks.specs.judged.Places.{statement as spot}
use Rattle.ir_blocks.specs.found.View.{statement_view}
use Rattle.ir_items.specs.judged.Plain.{PlainFunction}
use Rattle.ir_items.specs.found.View.{function_view}
use Rattle.function_body_checks.proofs.FaultLaws.{if_fault_then}
use Rattle.function_body_checks.specs.Carried.{IfFault, IsFaultHere}
use Rattle.function_body_checks.proofs.statement.check_own.Goals as goal

pub returns-in_err-bring-clause-fault : goal.returns-in_err-bring-clause-fault
returns-in_err-bring-clause-fault c =
    let f = function_view c.args.outline.now.function.now in
    let s = statement_view c.args.statement.now in
    let carried = c.args.carried.now in
    let told : IfFault c.in_err-bring.field-0.0 (IsFaultHere f c.args.asked (spot s) carried.scope carried.answered) =
    if_fault_then c.in_err-bring.field-0.0 (λ e. (asked : Bool) (answered : List ℕ) → IsFaultHere f asked (spot s) carried.scope answered e) (IsFaultHere f c.args.asked (spot s) carried.scope carried.answered)
    (λ e h. h c.args.asked carried.answered) c.in_err-bring.ensures.fault in
    search rules

pub returns-clause-fault : goal.returns-clause-fault
returns-clause-fault c =
    let f = function_view c.args.outline.now.function.now in
    let s = statement_view c.args.statement.now in
    let carried = c.args.carried.now in
    IfErr-weaker c.note_answer.result (λ r. IfFault r (λ e. (g : PlainFunction) (scope : List ℕ) → IsFaultHere g c.args.asked (spot s) scope carried.answered e)) _
    (λ r h. if_fault_then r (λ e. (g : PlainFunction) (scope : List ℕ) → IsFaultHere g c.args.asked (spot s) scope carried.answered e) (IsFaultHere f c.args.asked (spot s) carried.scope carried.answered)
    (λ e told. told f carried.scope) h) c.note_answer.ensures.fault
