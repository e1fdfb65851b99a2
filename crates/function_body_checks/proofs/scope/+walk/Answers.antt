use Rattle.std.proofs.Common.{rules, Err, IfErr, ◌≡◌, ◌+◌, ◌++◌, ◌∙◌, refl, sym, ap, subst, drop, map}
use Rattle.ir_blocks.specs.declared.statements.Statement.{the_lemmas}
use Rattle.std.proofs.lemmas.Result.{IfErr-weaker, on_ok_weaker}
use Rattle.std.proofs.lemmas.List.{append-nil}
use Rattle.ir_blocks.specs.judged.Plain.{block, if_, switch, loop}
use Rattle.ir_blocks.specs.found.View.{statement_view, statements_view, block_view, case_view, cases_of}
use Rattle.ir_items.specs.found.View.{function_view}
use Rattle.ir_places.proofs.IndexLaws.{case_of, next_of, stop_of}
use Rattle.function_body_checks.proofs.Walks.{if_fine, if_answered, switch_fine, loop_scope, loop_answered, loop_wrong, part_wrong, switch_wrong, leads_more, leads_fault, leads_last, cases_first, cases_more, cases_fault}
use Rattle.function_body_checks.specs.Carried.{AllFine, FaultAt, FaultFrom, FaultInPart, FaultInCase}
use Rattle.spec_statements.specs.found.Answered.{answered_in, answered_before_part}
use Rattle.spec_statements.specs.judged.Visible.{top_level}
use Rattle.ir_places.specs.Paths.{part_view, IsPlaced}
use Rattle.ir_places.proofs.TrailLaws.{block_is, stepped_out}
use Rattle.ir_blocks.specs.judged.Shapes.{inner, accepting, rejecting, case_at, loop_body, loop_continuing, part_of, shape_of}
use Rattle.function_body_checks.proofs.scope.+walk.Goals as goal

pub check_statement-returns-in_ok-check_inner-in-If-clause-fine : goal.check_statement-returns-in_ok-check_inner-in-If-clause-fine
check_statement-returns-in_ok-check_inner-in-If-clause-fine t c =
    let s = statement_view c.args.statement.now in
    let is : s ≡ if_ c.in-If.condition (block_view c.in-If.accept) (block_view c.in-If.reject) = search (rules, the_lemmas) in
    on_ok_weaker c.check_inner-in-If-2.result
    (λ second. if_fine (function_view c.args.outline.now.function.now) c.args.outline.now.asked c.args.carried.now.scope c.args.carried.now.answered _ _ s c.in-If.condition (block_view c.in-If.accept) (block_view c.in-If.reject) is
    c.in_ok-check_used-in-If.ensures.used c.in_ok-check_inner-in-If.ensures.fine c.in_ok-check_inner-in-If.ensures.scope c.in_ok-check_inner-in-If.ensures.answered second)
    c.check_inner-in-If-2.ensures.fine

pub check_statement-returns-in_ok-check_inner-in-If-clause-answered : goal.check_statement-returns-in_ok-check_inner-in-If-clause-answered
check_statement-returns-in_ok-check_inner-in-If-clause-answered t c =
    let s = statement_view c.args.statement.now in
    let is : s ≡ if_ c.in-If.condition (block_view c.in-If.accept) (block_view c.in-If.reject) = search (rules, the_lemmas) in
    on_ok_weaker c.check_inner-in-If-2.result
    (λ second. if_answered c.args.carried.now.answered _ _ s c.in-If.condition (block_view c.in-If.accept) (block_view c.in-If.reject) is c.in_ok-check_inner-in-If.ensures.answered second)
    c.check_inner-in-If-2.ensures.answered

pub check_statement-returns-in_ok-check_used-in-Switch-clause-fine : goal.check_statement-returns-in_ok-check_used-in-Switch-clause-fine
check_statement-returns-in_ok-check_used-in-Switch-clause-fine t c =
    let s = statement_view c.args.statement.now in
    let is : s ≡ switch c.in-Switch.selector (cases_of (map case_view c.deref.result.now)) = search (rules, the_lemmas) in
    on_ok_weaker c.check_cases.result
    (λ each. switch_fine (function_view c.args.outline.now.function.now) c.args.outline.now.asked c.args.carried.now.scope c.args.carried.now.answered s c.in-Switch.selector _ is c.in_ok-check_used-in-Switch.ensures.used each)
    c.check_cases.ensures.fine

pub check_statement-returns-in_ok-check_condition-in-Loop-clause-scope : goal.check_statement-returns-in_ok-check_condition-in-Loop-clause-scope
check_statement-returns-in_ok-check_condition-in-Loop-clause-scope t c =
    let s = statement_view c.args.statement.now in
    let is : s ≡ loop (block_view c.in-Loop.body) (block_view c.in-Loop.continuing) c.in-Loop.break_if = search (rules, the_lemmas) in
    loop_scope c.args.carried.now.scope _ _ _ _ s (block_view c.in-Loop.body) (block_view c.in-Loop.continuing) c.in-Loop.break_if is c.in_ok-check_part-in-Loop.ensures.scope c.in_ok-check_part-in-Loop-2.ensures.scope c.len-count.ensures c.cut.ensures

pub check_statement-returns-in_ok-check_condition-in-Loop-clause-answered : goal.check_statement-returns-in_ok-check_condition-in-Loop-clause-answered
check_statement-returns-in_ok-check_condition-in-Loop-clause-answered t c =
    let s = statement_view c.args.statement.now in
    let is : s ≡ loop (block_view c.in-Loop.body) (block_view c.in-Loop.continuing) c.in-Loop.break_if = search (rules, the_lemmas) in
    loop_answered c.args.carried.now.answered _ _ s (block_view c.in-Loop.body) (block_view c.in-Loop.continuing) c.in-Loop.break_if is c.in_ok-check_part-in-Loop.ensures.answered c.in_ok-check_part-in-Loop-2.ensures.answered

pub check_part-returns-in-Err-clause-fault : goal.check_part-returns-in-Err-clause-fault
check_part-returns-in-Err-clause-fault t c =
    let f = function_view c.args.outline.now.function.now in
    let carried = c.args.carried.now in
    stepped_out c.inside.new.self c.check_block.new.trail (record { index = c.args.index; part = c.args.part }) (FaultAt f c.args.outline.now.asked carried.scope carried.answered (block_view c.args.block.now) c.in-Err.error)
    (FaultInPart f c.args.outline.now.asked carried.scope carried.answered c.args.index (part_view c.args.part) (block_view c.args.block.now) c.in-Err.error)
    c.inside.ensures c.in-Err.ensures.fault (λ q h. (q, refl, h))

pub check_block-loop-index-preserved : goal.check_block-loop-index-preserved
check_block-loop-index-preserved t c =
    let f = function_view c.args.outline.now.function.now in
    let carried = c.args.carried.now in
    let items = c.as_slice-statement-items.result.now in
    leads_more f c.args.outline.now.asked carried.scope carried.answered (statements_view items) c.loop-index.index c.loop-index.carried.scope c.loop-index.carried.answered c.check_statement.new.carried.scope c.check_statement.new.carried.answered
    (statement_view c.statement-item.result) (statements_view (drop c.loop-index.index items)) (statements_view (drop (c.loop-index.index + 1) items)) c.loop-index.invariant
    (next_of items c.loop-index.index c.statement-item.result (search rules) c.statement-item.is) c.in_ok-check_statement.ensures.fine c.in_ok-check_statement.ensures.scope c.in_ok-check_statement.ensures.answered

pub check_block-returns-in_err-check_statement-clause-fault : goal.check_block-returns-in_err-check_statement-clause-fault
check_block-returns-in_err-check_statement-clause-fault t c =
    let f = function_view c.args.outline.now.function.now in
    let carried = c.args.carried.now in
    let items = c.as_slice-statement-items.result.now in
    let told : IsPlaced c.check_statement.new.trail (FaultAt f c.args.outline.now.asked carried.scope carried.answered (block_view c.args.block.now) c.in_err-check_statement.field-0.0) =
    subst (λ b. IsPlaced c.check_statement.new.trail (FaultAt f c.args.outline.now.asked carried.scope carried.answered b c.in_err-check_statement.field-0.0)) (block_is c.args.block.now items c.as_slice-statement-items.ensures)
    (leads_fault c.check_statement.new.trail c.in_err-check_statement.field-0.0 f c.args.outline.now.asked carried.scope carried.answered (statements_view items) c.loop-index.index c.loop-index.carried.scope c.loop-index.carried.answered
    (statement_view c.statement-item.result) (statements_view (drop c.loop-index.index items)) (statements_view (drop (c.loop-index.index + 1) items)) c.loop-index.invariant
    (next_of items c.loop-index.index c.statement-item.result (search rules) c.statement-item.is) c.in_err-check_statement.ensures.fault) in
    let same : c.from_residual.result ≡ Err c.in_err-check_statement.field-0.0 = search rules in
    subst (λ x. IfErr x (λ e. IsPlaced c.check_statement.new.trail (FaultAt f c.args.outline.now.asked carried.scope carried.answered (block_view c.args.block.now) e))) (sym same) told

pub check_block-returns-clause-fine : goal.check_block-returns-clause-fine
check_block-returns-clause-fine t c =
    let f = function_view c.args.outline.now.function.now in
    let carried = c.args.carried.now in
    let items = c.as_slice-statement-items.result.now in
    subst (AllFine f c.args.outline.now.asked carried.scope carried.answered) (block_is c.args.block.now items c.as_slice-statement-items.ensures)
    (leads_last f c.args.outline.now.asked carried.scope carried.answered (statements_view items) c.loop-index.index c.loop-index.carried.scope c.loop-index.carried.answered (statements_view (drop c.loop-index.index items)) c.loop-index.invariant
    (stop_of items c.loop-index.index (search rules))).0

pub check_block-returns-clause-scope : goal.check_block-returns-clause-scope
check_block-returns-clause-scope t c =
    let f = function_view c.args.outline.now.function.now in
    let carried = c.args.carried.now in
    let items = c.as_slice-statement-items.result.now in
    (leads_last f c.args.outline.now.asked carried.scope carried.answered (statements_view items) c.loop-index.index c.loop-index.carried.scope c.loop-index.carried.answered (statements_view (drop c.loop-index.index items)) c.loop-index.invariant
    (stop_of items c.loop-index.index (search rules))).1 ∙ ap (λ b. carried.scope ++ top_level b) (block_is c.args.block.now items c.as_slice-statement-items.ensures)

pub check_block-returns-clause-answered : goal.check_block-returns-clause-answered
check_block-returns-clause-answered t c =
    let f = function_view c.args.outline.now.function.now in
    let carried = c.args.carried.now in
    let items = c.as_slice-statement-items.result.now in
    (leads_last f c.args.outline.now.asked carried.scope carried.answered (statements_view items) c.loop-index.index c.loop-index.carried.scope c.loop-index.carried.answered (statements_view (drop c.loop-index.index items)) c.loop-index.invariant
    (stop_of items c.loop-index.index (search rules))).2 ∙ ap (λ b. carried.answered ++ answered_in b) (block_is c.args.block.now items c.as_slice-statement-items.ensures)

pub check_cases-loop-number-init : goal.check_cases-loop-number-init
check_cases-loop-number-init t c = (refl, cases_first (function_view c.args.outline.now.function.now) c.args.outline.now.asked c.args.carried.now.scope c.args.carried.now.answered (cases_of (map case_view c.args.cases.now)))

pub check_cases-loop-number-preserved : goal.check_cases-loop-number-preserved
check_cases-loop-number-preserved t c =
    let f = function_view c.args.outline.now.function.now in
    let carried = c.args.carried.now in
    let items = c.args.cases.now in
    let one = c.index-cases-number.result in (
      c.in_ok-check_inner.ensures.scope ∙ c.loop-number.invariant.0,
      cases_more f c.args.outline.now.asked carried.scope carried.answered (cases_of (map case_view items)) c.loop-number.number c.loop-number.carried.answered c.check_inner.new.carried.answered
          (case_view one).value (block_view one.body) (case_view one).falls (cases_of (map case_view (drop c.loop-number.number items))) (cases_of (map case_view (drop (c.loop-number.number + 1) items))) c.loop-number.invariant.1
          (case_of items c.loop-number.number one (search rules) c.index-cases-number.is)
          (subst (λ xs. AllFine f c.args.outline.now.asked xs c.loop-number.carried.answered (block_view one.body)) c.loop-number.invariant.0 c.in_ok-check_inner.ensures.fine) c.in_ok-check_inner.ensures.answered,
    )

pub check_cases-returns-in_err-check_inner-clause-fault : goal.check_cases-returns-in_err-check_inner-clause-fault
check_cases-returns-in_err-check_inner-clause-fault t c =
    let f = function_view c.args.outline.now.function.now in
    let carried = c.args.carried.now in
    let items = c.args.cases.now in
    let one = c.index-cases-number.result in
    let told : IsPlaced c.check_inner.new.trail (FaultInCase f c.args.outline.now.asked carried.scope carried.answered c.args.index (cases_of (map case_view items)) c.in_err-check_inner.field-0.0) =
    cases_fault c.check_inner.new.trail c.in_err-check_inner.field-0.0 f c.args.outline.now.asked carried.scope carried.answered c.args.index (cases_of (map case_view items)) c.loop-number.number c.loop-number.carried.answered
    (case_view one).value (block_view one.body) (case_view one).falls (cases_of (map case_view (drop c.loop-number.number items))) (cases_of (map case_view (drop (c.loop-number.number + 1) items))) c.loop-number.invariant.1
    (case_of items c.loop-number.number one (search rules) c.index-cases-number.is)
    (subst (λ xs. IsPlaced c.check_inner.new.trail (FaultInPart f c.args.outline.now.asked xs c.loop-number.carried.answered c.args.index (case_at c.loop-number.number) (block_view one.body) c.in_err-check_inner.field-0.0)) c.loop-number.invariant.0 c.in_err-check_inner.ensures.fault) in
    let same : c.from_residual.result ≡ Err c.in_err-check_inner.field-0.0 = search rules in
    subst (λ x. IfErr x (λ e. IsPlaced c.check_inner.new.trail (FaultInCase f c.args.outline.now.asked carried.scope carried.answered c.args.index (cases_of (map case_view items)) e))) (sym same) told

pub check_statement-returns-in-Block-clause-fault : goal.check_statement-returns-in-Block-clause-fault
check_statement-returns-in-Block-clause-fault t c =
    let f = function_view c.args.outline.now.function.now in
    let carried = c.args.carried.now in
    let s = statement_view c.args.statement.now in
    let is : s ≡ block (block_view c.in-Block.block) = search (rules, the_lemmas) in
    IfErr-weaker c.check_inner.result _ _
    (λ r h. part_wrong c.check_inner.new.trail r f c.args.outline.now.asked carried.scope carried.answered carried.scope carried.answered c.args.index s inner (block_view c.in-Block.block) (ap (λ x. part_of (shape_of x) inner) (sym is)) refl (sym (append-nil carried.answered) ∙ ap (λ x. carried.answered ++ answered_before_part x inner) (sym is)) h) c.check_inner.ensures.fault

pub check_statement-returns-in_err-check_inner-in-If-clause-fault : goal.check_statement-returns-in_err-check_inner-in-If-clause-fault
check_statement-returns-in_err-check_inner-in-If-clause-fault t c =
    let f = function_view c.args.outline.now.function.now in
    let carried = c.args.carried.now in
    let s = statement_view c.args.statement.now in
    let is : s ≡ if_ c.in-If.condition (block_view c.in-If.accept) (block_view c.in-If.reject) = search (rules, the_lemmas) in
    let told : IsPlaced c.check_inner-in-If.new.trail (FaultFrom f c.args.outline.now.asked carried.scope carried.answered c.args.index s c.in_err-check_inner-in-If.field-0.0) =
    part_wrong c.check_inner-in-If.new.trail c.in_err-check_inner-in-If.field-0.0 f c.args.outline.now.asked carried.scope carried.answered carried.scope carried.answered c.args.index s accepting (block_view c.in-If.accept) (ap (λ x. part_of (shape_of x) accepting) (sym is)) refl (sym (append-nil carried.answered) ∙ ap (λ x. carried.answered ++ answered_before_part x accepting) (sym is)) c.in_err-check_inner-in-If.ensures.fault in
    let same : c.from_residual-in_err-check_inner-in-If.result ≡ Err c.in_err-check_inner-in-If.field-0.0 = search rules in
    subst (λ x. IfErr x (λ e. IsPlaced c.check_inner-in-If.new.trail (FaultFrom f c.args.outline.now.asked carried.scope carried.answered c.args.index s e))) (sym same) told

pub check_statement-returns-in_ok-check_inner-in-If-clause-fault : goal.check_statement-returns-in_ok-check_inner-in-If-clause-fault
check_statement-returns-in_ok-check_inner-in-If-clause-fault t c =
    let f = function_view c.args.outline.now.function.now in
    let carried = c.args.carried.now in
    let s = statement_view c.args.statement.now in
    let is : s ≡ if_ c.in-If.condition (block_view c.in-If.accept) (block_view c.in-If.reject) = search (rules, the_lemmas) in
    IfErr-weaker c.check_inner-in-If-2.result _ _
    (λ r h. part_wrong c.check_inner-in-If-2.new.trail r f c.args.outline.now.asked carried.scope carried.answered _ _ c.args.index s rejecting (block_view c.in-If.reject) (ap (λ x. part_of (shape_of x) rejecting) (sym is)) c.in_ok-check_inner-in-If.ensures.scope
    (c.in_ok-check_inner-in-If.ensures.answered ∙ ap (λ x. carried.answered ++ answered_before_part x rejecting) (sym is)) h) c.check_inner-in-If-2.ensures.fault

pub check_statement-returns-in_err-check_part-in-Loop-clause-fault : goal.check_statement-returns-in_err-check_part-in-Loop-clause-fault
check_statement-returns-in_err-check_part-in-Loop-clause-fault t c =
    let f = function_view c.args.outline.now.function.now in
    let carried = c.args.carried.now in
    let s = statement_view c.args.statement.now in
    let is : s ≡ loop (block_view c.in-Loop.body) (block_view c.in-Loop.continuing) c.in-Loop.break_if = search (rules, the_lemmas) in
    let told : IsPlaced c.check_part.new.trail (FaultFrom f c.args.outline.now.asked carried.scope carried.answered c.args.index s c.in_err-check_part-in-Loop.field-0.0) =
    part_wrong c.check_part.new.trail c.in_err-check_part-in-Loop.field-0.0 f c.args.outline.now.asked carried.scope carried.answered carried.scope carried.answered c.args.index s loop_body (block_view c.in-Loop.body) (ap (λ x. part_of (shape_of x) loop_body) (sym is)) refl (sym (append-nil carried.answered) ∙ ap (λ x. carried.answered ++ answered_before_part x loop_body) (sym is)) c.in_err-check_part-in-Loop.ensures.fault in
    let same : c.from_residual-in_err-check_part-in-Loop.result ≡ Err c.in_err-check_part-in-Loop.field-0.0 = search rules in
    subst (λ x. IfErr x (λ e. IsPlaced c.check_part.new.trail (FaultFrom f c.args.outline.now.asked carried.scope carried.answered c.args.index s e))) (sym same) told

pub check_statement-returns-in_err-check_part-in-Loop-2-clause-fault : goal.check_statement-returns-in_err-check_part-in-Loop-2-clause-fault
check_statement-returns-in_err-check_part-in-Loop-2-clause-fault t c =
    let f = function_view c.args.outline.now.function.now in
    let carried = c.args.carried.now in
    let s = statement_view c.args.statement.now in
    let is : s ≡ loop (block_view c.in-Loop.body) (block_view c.in-Loop.continuing) c.in-Loop.break_if = search (rules, the_lemmas) in
    let told : IsPlaced c.check_part-in-Loop.new.trail (FaultFrom f c.args.outline.now.asked carried.scope carried.answered c.args.index s c.in_err-check_part-in-Loop-2.field-0.0) =
    part_wrong c.check_part-in-Loop.new.trail c.in_err-check_part-in-Loop-2.field-0.0 f c.args.outline.now.asked carried.scope carried.answered _ _ c.args.index s loop_continuing (block_view c.in-Loop.continuing) (ap (λ x. part_of (shape_of x) loop_continuing) (sym is))
    (c.in_ok-check_part-in-Loop.ensures.scope ∙ ap (λ x. carried.scope ++ top_level (part_of (shape_of x) loop_body)) (sym is))
    (c.in_ok-check_part-in-Loop.ensures.answered ∙ ap (λ x. carried.answered ++ answered_before_part x loop_continuing) (sym is)) c.in_err-check_part-in-Loop-2.ensures.fault in
    let same : c.from_residual-in_err-check_part-in-Loop-2.result ≡ Err c.in_err-check_part-in-Loop-2.field-0.0 = search rules in
    subst (λ x. IfErr x (λ e. IsPlaced c.check_part-in-Loop.new.trail (FaultFrom f c.args.outline.now.asked carried.scope carried.answered c.args.index s e))) (sym same) told

pub check_statement-returns-in_ok-check_used-in-Switch-clause-fault : goal.check_statement-returns-in_ok-check_used-in-Switch-clause-fault
check_statement-returns-in_ok-check_used-in-Switch-clause-fault t c =
    let f = function_view c.args.outline.now.function.now in
    let carried = c.args.carried.now in
    let s = statement_view c.args.statement.now in
    let is : s ≡ switch c.in-Switch.selector (cases_of (map case_view c.deref.result.now)) = search (rules, the_lemmas) in
    IfErr-weaker c.check_cases.result _ _ (λ r h. switch_wrong c.check_cases.new.trail r f c.args.outline.now.asked carried.scope carried.answered c.args.index s c.in-Switch.selector (cases_of (map case_view c.deref.result.now)) is h) c.check_cases.ensures.fault

pub check_statement-returns-in_err-check_condition-in-Loop-clause-fault : goal.check_statement-returns-in_err-check_condition-in-Loop-clause-fault
check_statement-returns-in_err-check_condition-in-Loop-clause-fault t c =
    let f = function_view c.args.outline.now.function.now in
    let carried = c.args.carried.now in
    let s = statement_view c.args.statement.now in
    let is : s ≡ loop (block_view c.in-Loop.body) (block_view c.in-Loop.continuing) c.in-Loop.break_if = search (rules, the_lemmas) in
    let told : IsPlaced c.check_condition.new.trail (FaultFrom f c.args.outline.now.asked carried.scope carried.answered c.args.index s c.in_err-check_condition-in-Loop.field-0.0) =
    loop_wrong c.check_condition.new.trail c.in_err-check_condition-in-Loop.field-0.0 f c.args.outline.now.asked carried.scope carried.answered _ _ _ _ c.args.index s (block_view c.in-Loop.body) (block_view c.in-Loop.continuing) c.in-Loop.break_if is
    c.in_ok-check_part-in-Loop.ensures.scope c.in_ok-check_part-in-Loop-2.ensures.scope c.in_ok-check_part-in-Loop.ensures.answered c.in_ok-check_part-in-Loop-2.ensures.answered
    c.in_err-check_condition-in-Loop.ensures.fault in
    let same : c.from_residual-in_err-check_condition-in-Loop.result ≡ Err c.in_err-check_condition-in-Loop.field-0.0 = search rules in
    subst (λ x. IfErr x (λ e. IsPlaced c.check_condition.new.trail (FaultFrom f c.args.outline.now.asked carried.scope carried.answered c.args.index s e))) (sym same) told
