use Rattle.std.proofs.Common.{rules, ◌∷◌, []}
use Rattle.ir_arena.specs.judged.Handles.{handles_between}
use Rattle.ir_items.specs.found.View.{function_view}
use Rattle.ir_items.specs.judged.Plain.{PlainFunction}
use Rattle.function_strict_scope.proofs.Errors.{if_fault_then}
use Rattle.function_strict_scope.proofs.Ranges.{only_again, range_fault}
use Rattle.function_strict_scope.specs.Walked.{IfFault, IsFaultOfNew}
use Rattle.function_strict_scope.proofs.introducing.emit_each.Goals as goal

pub returns-in_err-add-clause-fault : goal.returns-in_err-add-clause-fault
returns-in_err-add-clause-fault c =
    let f = function_view c.args.function.now in
    let all = handles_between c.args.range in
    let now = c.loop-handle.sure in
    let h = c.in-Some.handle in
    let told : IfFault c.in_err-add.field-0.0 (IsFaultOfNew f c.args.sure.now all all) =
    if_fault_then c.in_err-add.field-0.0 (λ e. (g : PlainFunction) → IsFaultOfNew g now [] (h ∷ []) e) (IsFaultOfNew f c.args.sure.now all all)
    (λ e wrong. range_fault f c.args.sure.now all now (handles_between c.loop-handle.handle-iterator) h (handles_between c.next.new.self) e c.loop-handle.invariant c.in-Some.ensures.steps (only_again f now h e (wrong f)))
    c.in_err-add.ensures.fault in
    search rules
