use Rattle.std.proofs.Common.{rules, Err, IfErr, ◌≡◌, ◌+◌, ◌++◌, ◌∙◌, refl, sym, ap, subst, drop, map}
use Rattle.std.proofs.lemmas.Result.{IfErr-weaker, on_ok_weaker}
use Rattle.ir_blocks.specs.declared.statements.Statement.{the_lemmas}
use Rattle.ir_blocks.specs.found.View.{statement_view, statements_view, block_view, case_view, cases_of}
use Rattle.ir_blocks.specs.judged.Plain.{block, if_, switch, loop}
use Rattle.ir_blocks.specs.judged.Shapes.{inner, accepting, rejecting, case_at, loop_body, loop_continuing, part_of, shape_of}
use Rattle.ir_items.specs.found.View.{function_view}
use Rattle.ir_places.proofs.IndexLaws.{case_of, next_of, stop_of}
use Rattle.ir_places.proofs.TrailLaws.{block_is, stepped_out}
use Rattle.ir_places.specs.Paths.{IsPlaced, part_view}
use Rattle.spec_statements.specs.found.SureLevel.{sure_level}
use Rattle.spec_statements.specs.judged.Visible.{top_level}
use Rattle.function_strict_scope.proofs.Walks.{left_told, leads_more, leads_fault, leads_last, cases_first, cases_more, cases_fault, if_meets, switch_meets, body_left, loop_scope, loop_meets, part_wrong, switch_wrong, loop_wrong}
use Rattle.function_strict_scope.specs.Walked.{AllMeet, FaultAt, FaultFrom, FaultInCase, FaultInPart, left_in}
use Rattle.function_strict_scope.proofs.walk.+walk.Goals as goal

pub check_part-returns-in-Err-clause-fault : goal.check_part-returns-in-Err-clause-fault
check_part-returns-in-Err-clause-fault t c =
    let f = function_view c.args.function.now in
    stepped_out c.inside.new.self c.check_block.new.trail (record { index = c.args.index; part = c.args.part }) (FaultAt f c.args.sure.now (block_view c.args.block.now) c.in-Err.error)
    (FaultInPart f c.args.sure.now c.args.index (part_view c.args.part) (block_view c.args.block.now) c.in-Err.error)
    c.inside.ensures c.in-Err.ensures.fault (λ q h. (q, refl, h))

pub check_block-loop-index-preserved : goal.check_block-loop-index-preserved
check_block-loop-index-preserved t c =
    let f = function_view c.args.function.now in
    let items = c.as_slice-statement-items.result.now in (
      leads_more f c.args.sure.now (statements_view items) c.loop-index.index c.loop-index.sure c.check_statement.new.sure c.loop-index.left c.left_after-left.result c.in_ok-continues.continues c.len.result
          (statement_view c.statement-item.result) (statements_view (drop c.loop-index.index items)) (statements_view (drop (c.loop-index.index + 1) items)) c.loop-index.invariant.0
          (next_of items c.loop-index.index c.statement-item.result (search rules) c.statement-item.is) c.in_ok-continues.ensures.meet c.in_ok-continues.ensures.scope c.in_ok-continues.ensures.continues c.len.ensures c.left_after-left.ensures,
      c.in_ok-continues.ensures.live,
    )

pub check_block-returns-in_err-continues-clause-fault : goal.check_block-returns-in_err-continues-clause-fault
check_block-returns-in_err-continues-clause-fault t c =
    let f = function_view c.args.function.now in
    let items = c.as_slice-statement-items.result.now in
    let told : IsPlaced c.check_statement.new.trail (FaultAt f c.args.sure.now (block_view c.args.block.now) c.in_err-continues.field-0.0) =
    subst (λ b. IsPlaced c.check_statement.new.trail (FaultAt f c.args.sure.now b c.in_err-continues.field-0.0)) (block_is c.args.block.now items c.as_slice-statement-items.ensures)
    (leads_fault c.check_statement.new.trail c.in_err-continues.field-0.0 f c.args.sure.now (statements_view items) c.loop-index.index c.loop-index.sure c.loop-index.left
    (statement_view c.statement-item.result) (statements_view (drop c.loop-index.index items)) (statements_view (drop (c.loop-index.index + 1) items)) c.loop-index.invariant.0
    (next_of items c.loop-index.index c.statement-item.result (search rules) c.statement-item.is) c.in_err-continues.ensures.fault) in
    let same : c.from_residual.result ≡ Err c.in_err-continues.field-0.0 = search rules in
    subst (λ x. IfErr x (λ e. IsPlaced c.check_statement.new.trail (FaultAt f c.args.sure.now (block_view c.args.block.now) e))) (sym same) told

pub check_block-returns-clause-meet : goal.check_block-returns-clause-meet
check_block-returns-clause-meet t c =
    let f = function_view c.args.function.now in
    let items = c.as_slice-statement-items.result.now in
    subst (AllMeet f c.args.sure.now) (block_is c.args.block.now items c.as_slice-statement-items.ensures)
    (leads_last f c.args.sure.now (statements_view items) c.loop-index.index c.loop-index.sure c.loop-index.left (statements_view (drop c.loop-index.index items)) c.loop-index.invariant.0
    (stop_of items c.loop-index.index (search rules))).0

pub check_block-returns-clause-scope : goal.check_block-returns-clause-scope
check_block-returns-clause-scope t c =
    let f = function_view c.args.function.now in
    let items = c.as_slice-statement-items.result.now in
    (leads_last f c.args.sure.now (statements_view items) c.loop-index.index c.loop-index.sure c.loop-index.left (statements_view (drop c.loop-index.index items)) c.loop-index.invariant.0
    (stop_of items c.loop-index.index (search rules))).1 ∙ ap (λ b. c.args.sure.now ++ top_level b) (block_is c.args.block.now items c.as_slice-statement-items.ensures)

pub check_block-returns-clause-left : goal.check_block-returns-clause-left
check_block-returns-clause-left t c =
    let f = function_view c.args.function.now in
    let items = c.as_slice-statement-items.result.now in
    (leads_last f c.args.sure.now (statements_view items) c.loop-index.index c.loop-index.sure c.loop-index.left (statements_view (drop c.loop-index.index items)) c.loop-index.invariant.0
    (stop_of items c.loop-index.index (search rules))).2 ∙ ap (left_in c.args.sure.now) (block_is c.args.block.now items c.as_slice-statement-items.ensures)

pub check_inner-returns-clause-continues : goal.check_inner-returns-clause-continues
check_inner-returns-clause-continues t c =
    c.is_some.ensures ∙ left_told c.args.sure.now (block_view c.args.block.now) c.in_ok-left.left c.in_ok-left.ensures.left

pub check_cases-loop-number-init : goal.check_cases-loop-number-init
check_cases-loop-number-init t c =
    let f = function_view c.args.function.now in
    (refl, cases_first f c.args.sure.now (cases_of (map case_view c.args.cases.now)), c.requires)

pub check_cases-loop-number-preserved : goal.check_cases-loop-number-preserved
check_cases-loop-number-preserved t c =
    let f = function_view c.args.function.now in
    let items = c.args.cases.now in
    let one = c.index-cases-number.result in (
      c.in_ok-own.ensures.scope ∙ c.loop-number.invariant.0,
      cases_more f c.args.sure.now (cases_of (map case_view items)) c.loop-number.number c.loop-number.continues c.either-continues.result c.in_ok-own.own
          (case_view one).value (block_view one.body) (case_view one).falls (cases_of (map case_view (drop c.loop-number.number items))) (cases_of (map case_view (drop (c.loop-number.number + 1) items))) c.loop-number.invariant.1
          (case_of items c.loop-number.number one (search rules) c.index-cases-number.is)
          (subst (λ xs. AllMeet f xs (block_view one.body)) c.loop-number.invariant.0 c.in_ok-own.ensures.meet) c.in_ok-own.ensures.continues c.either-continues.ensures,
      c.in_ok-own.ensures.live,
    )

pub check_cases-returns-in_err-own-clause-fault : goal.check_cases-returns-in_err-own-clause-fault
check_cases-returns-in_err-own-clause-fault t c =
    let f = function_view c.args.function.now in
    let items = c.args.cases.now in
    let one = c.index-cases-number.result in
    let told : IsPlaced c.check_inner.new.trail (FaultInCase f c.args.sure.now c.args.index (cases_of (map case_view items)) c.in_err-own.field-0.0) =
    cases_fault c.check_inner.new.trail c.in_err-own.field-0.0 f c.args.sure.now c.args.index (cases_of (map case_view items)) c.loop-number.number c.loop-number.continues
    (case_view one).value (block_view one.body) (case_view one).falls (cases_of (map case_view (drop c.loop-number.number items))) (cases_of (map case_view (drop (c.loop-number.number + 1) items))) c.loop-number.invariant.1
    (case_of items c.loop-number.number one (search rules) c.index-cases-number.is)
    (subst (λ xs. IsPlaced c.check_inner.new.trail (FaultInPart f xs c.args.index (case_at c.loop-number.number) (block_view one.body) c.in_err-own.field-0.0)) c.loop-number.invariant.0 c.in_err-own.ensures.fault) in
    let same : c.from_residual.result ≡ Err c.in_err-own.field-0.0 = search rules in
    subst (λ x. IfErr x (λ e. IsPlaced c.check_inner.new.trail (FaultInCase f c.args.sure.now c.args.index (cases_of (map case_view items)) e))) (sym same) told

pub check_statement-returns-in-Block-clause-fault : goal.check_statement-returns-in-Block-clause-fault
check_statement-returns-in-Block-clause-fault t c =
    let f = function_view c.args.function.now in
    let s = statement_view c.args.statement.now in
    let is : s ≡ block (block_view c.in-Block.block) = search (rules, the_lemmas) in
    IfErr-weaker c.check_inner.result _ _
    (λ r h. part_wrong c.check_inner.new.trail r f c.args.sure.now c.args.sure.now c.args.index s inner (block_view c.in-Block.block) (ap (λ x. part_of (shape_of x) inner) (sym is)) refl h) c.check_inner.ensures.fault

pub check_statement-returns-in_err-first-in-If-clause-fault : goal.check_statement-returns-in_err-first-in-If-clause-fault
check_statement-returns-in_err-first-in-If-clause-fault t c =
    let f = function_view c.args.function.now in
    let s = statement_view c.args.statement.now in
    let is : s ≡ if_ c.in-If.condition (block_view c.in-If.accept) (block_view c.in-If.reject) = search (rules, the_lemmas) in
    let told : IsPlaced c.check_inner-in-If.new.trail (FaultFrom f c.args.sure.now c.args.index s c.in_err-first-in-If.field-0.0) =
    part_wrong c.check_inner-in-If.new.trail c.in_err-first-in-If.field-0.0 f c.args.sure.now c.args.sure.now c.args.index s accepting (block_view c.in-If.accept) (ap (λ x. part_of (shape_of x) accepting) (sym is)) refl c.in_err-first-in-If.ensures.fault in
    let same : c.from_residual-in_err-first-in-If.result ≡ Err c.in_err-first-in-If.field-0.0 = search rules in
    subst (λ x. IfErr x (λ e. IsPlaced c.check_inner-in-If.new.trail (FaultFrom f c.args.sure.now c.args.index s e))) (sym same) told

pub check_statement-returns-in_err-second-in-If-clause-fault : goal.check_statement-returns-in_err-second-in-If-clause-fault
check_statement-returns-in_err-second-in-If-clause-fault t c =
    let f = function_view c.args.function.now in
    let s = statement_view c.args.statement.now in
    let is : s ≡ if_ c.in-If.condition (block_view c.in-If.accept) (block_view c.in-If.reject) = search (rules, the_lemmas) in
    let told : IsPlaced c.check_inner-in-If-2.new.trail (FaultFrom f c.args.sure.now c.args.index s c.in_err-second-in-If.field-0.0) =
    part_wrong c.check_inner-in-If-2.new.trail c.in_err-second-in-If.field-0.0 f c.args.sure.now _ c.args.index s rejecting (block_view c.in-If.reject) (ap (λ x. part_of (shape_of x) rejecting) (sym is)) c.in_ok-first-in-If.ensures.scope c.in_err-second-in-If.ensures.fault in
    let same : c.from_residual-in_err-second-in-If.result ≡ Err c.in_err-second-in-If.field-0.0 = search rules in
    subst (λ x. IfErr x (λ e. IsPlaced c.check_inner-in-If-2.new.trail (FaultFrom f c.args.sure.now c.args.index s e))) (sym same) told

pub check_statement-returns-in_ok-second-in-If-clause-meet : goal.check_statement-returns-in_ok-second-in-If-clause-meet
check_statement-returns-in_ok-second-in-If-clause-meet t c =
    let s = statement_view c.args.statement.now in
    let is : s ≡ if_ c.in-If.condition (block_view c.in-If.accept) (block_view c.in-If.reject) = search (rules, the_lemmas) in
    if_meets (function_view c.args.function.now) c.args.sure.now _ s c.in-If.condition (block_view c.in-If.accept) (block_view c.in-If.reject) is
    c.in_ok-check_needed-in-If.ensures.used c.in_ok-first-in-If.ensures.meet c.in_ok-first-in-If.ensures.scope c.in_ok-second-in-If.ensures.meet

pub check_statement-returns-in_ok-check_needed-in-Switch-clause-meet : goal.check_statement-returns-in_ok-check_needed-in-Switch-clause-meet
check_statement-returns-in_ok-check_needed-in-Switch-clause-meet t c =
    let s = statement_view c.args.statement.now in
    let is : s ≡ switch c.in-Switch.selector (cases_of (map case_view c.deref.result.now)) = search (rules, the_lemmas) in
    on_ok_weaker c.check_cases.result
    (λ each. switch_meets (function_view c.args.function.now) c.args.sure.now s c.in-Switch.selector _ is c.in_ok-check_needed-in-Switch.ensures.used each)
    c.check_cases.ensures.meet

pub check_statement-returns-in_ok-check_needed-in-Switch-clause-fault : goal.check_statement-returns-in_ok-check_needed-in-Switch-clause-fault
check_statement-returns-in_ok-check_needed-in-Switch-clause-fault t c =
    let f = function_view c.args.function.now in
    let s = statement_view c.args.statement.now in
    let is : s ≡ switch c.in-Switch.selector (cases_of (map case_view c.deref.result.now)) = search (rules, the_lemmas) in
    IfErr-weaker c.check_cases.result _ _ (λ r h. switch_wrong c.check_cases.new.trail r f c.args.sure.now c.args.index s c.in-Switch.selector (cases_of (map case_view c.deref.result.now)) is h) c.check_cases.ensures.fault

pub check_statement-returns-in_err-left-in-Loop-clause-fault : goal.check_statement-returns-in_err-left-in-Loop-clause-fault
check_statement-returns-in_err-left-in-Loop-clause-fault t c =
    let f = function_view c.args.function.now in
    let s = statement_view c.args.statement.now in
    let is : s ≡ loop (block_view c.in-Loop.body) (block_view c.in-Loop.continuing) c.in-Loop.break_if = search (rules, the_lemmas) in
    let told : IsPlaced c.check_part.new.trail (FaultFrom f c.args.sure.now c.args.index s c.in_err-left-in-Loop.field-0.0) =
    part_wrong c.check_part.new.trail c.in_err-left-in-Loop.field-0.0 f c.args.sure.now c.args.sure.now c.args.index s loop_body (block_view c.in-Loop.body) (ap (λ x. part_of (shape_of x) loop_body) (sym is)) refl c.in_err-left-in-Loop.ensures.fault in
    let same : c.from_residual-in_err-left-in-Loop.result ≡ Err c.in_err-left-in-Loop.field-0.0 = search rules in
    subst (λ x. IfErr x (λ e. IsPlaced c.check_part.new.trail (FaultFrom f c.args.sure.now c.args.index s e))) (sym same) told

pub check_statement-returns-in_err-check_part-in-Loop-clause-fault : goal.check_statement-returns-in_err-check_part-in-Loop-clause-fault
check_statement-returns-in_err-check_part-in-Loop-clause-fault t c =
    let f = function_view c.args.function.now in
    let s = statement_view c.args.statement.now in
    let is : s ≡ loop (block_view c.in-Loop.body) (block_view c.in-Loop.continuing) c.in-Loop.break_if = search (rules, the_lemmas) in
    let left : c.cut_after.new.sure ≡ c.args.sure.now ++ sure_level (block_view c.in-Loop.body) =
    body_left c.args.sure.now _ _ c.in_ok-left-in-Loop.left (block_view c.in-Loop.body) c.in_ok-left-in-Loop.ensures.scope c.in_ok-left-in-Loop.ensures.left c.cut_after.ensures.cut in
    let told : IsPlaced c.check_part-in-Loop.new.trail (FaultFrom f c.args.sure.now c.args.index s c.in_err-check_part-in-Loop.field-0.0) =
    part_wrong c.check_part-in-Loop.new.trail c.in_err-check_part-in-Loop.field-0.0 f c.args.sure.now c.cut_after.new.sure c.args.index s loop_continuing (block_view c.in-Loop.continuing) (ap (λ x. part_of (shape_of x) loop_continuing) (sym is)) (left ∙ ap (λ x. c.args.sure.now ++ sure_level (part_of (shape_of x) loop_body)) (sym is)) c.in_err-check_part-in-Loop.ensures.fault in
    let same : c.from_residual-in_err-check_part-in-Loop.result ≡ Err c.in_err-check_part-in-Loop.field-0.0 = search rules in
    subst (λ x. IfErr x (λ e. IsPlaced c.check_part-in-Loop.new.trail (FaultFrom f c.args.sure.now c.args.index s e))) (sym same) told

pub check_statement-returns-in_err-check_condition-in-Loop-clause-fault : goal.check_statement-returns-in_err-check_condition-in-Loop-clause-fault
check_statement-returns-in_err-check_condition-in-Loop-clause-fault t c =
    let f = function_view c.args.function.now in
    let s = statement_view c.args.statement.now in
    let is : s ≡ loop (block_view c.in-Loop.body) (block_view c.in-Loop.continuing) c.in-Loop.break_if = search (rules, the_lemmas) in
    let left : c.cut_after.new.sure ≡ c.args.sure.now ++ sure_level (block_view c.in-Loop.body) =
    body_left c.args.sure.now _ _ c.in_ok-left-in-Loop.left (block_view c.in-Loop.body) c.in_ok-left-in-Loop.ensures.scope c.in_ok-left-in-Loop.ensures.left c.cut_after.ensures.cut in
    let told : IsPlaced c.check_condition.new.trail (FaultFrom f c.args.sure.now c.args.index s c.in_err-check_condition-in-Loop.field-0.0) =
    loop_wrong c.check_condition.new.trail c.in_err-check_condition-in-Loop.field-0.0 f c.args.sure.now c.cut_after.new.sure _ c.args.index s (block_view c.in-Loop.body) (block_view c.in-Loop.continuing) c.in-Loop.break_if is left
    c.in_ok-check_part-in-Loop.ensures.scope c.in_err-check_condition-in-Loop.ensures.fault in
    let same : c.from_residual-in_err-check_condition-in-Loop.result ≡ Err c.in_err-check_condition-in-Loop.field-0.0 = search rules in
    subst (λ x. IfErr x (λ e. IsPlaced c.check_condition.new.trail (FaultFrom f c.args.sure.now c.args.index s e))) (sym same) told

pub check_statement-returns-in_ok-check_condition-in-Loop-clause-meet : goal.check_statement-returns-in_ok-check_condition-in-Loop-clause-meet
check_statement-returns-in_ok-check_condition-in-Loop-clause-meet t c =
    let s = statement_view c.args.statement.now in
    let is : s ≡ loop (block_view c.in-Loop.body) (block_view c.in-Loop.continuing) c.in-Loop.break_if = search (rules, the_lemmas) in
    let left : c.cut_after.new.sure ≡ c.args.sure.now ++ sure_level (block_view c.in-Loop.body) =
    body_left c.args.sure.now _ _ c.in_ok-left-in-Loop.left (block_view c.in-Loop.body) c.in_ok-left-in-Loop.ensures.scope c.in_ok-left-in-Loop.ensures.left c.cut_after.ensures.cut in
    loop_meets (function_view c.args.function.now) c.args.sure.now c.cut_after.new.sure _ s (block_view c.in-Loop.body) (block_view c.in-Loop.continuing) c.in-Loop.break_if is left
    c.in_ok-check_part-in-Loop.ensures.scope c.in_ok-left-in-Loop.ensures.meet c.in_ok-check_part-in-Loop.ensures.meet c.in_ok-check_condition-in-Loop.ensures.used

pub check_statement-returns-in_ok-check_condition-in-Loop-clause-scope : goal.check_statement-returns-in_ok-check_condition-in-Loop-clause-scope
check_statement-returns-in_ok-check_condition-in-Loop-clause-scope t c =
    let s = statement_view c.args.statement.now in
    let is : s ≡ loop (block_view c.in-Loop.body) (block_view c.in-Loop.continuing) c.in-Loop.break_if = search (rules, the_lemmas) in
    let left : c.cut_after.new.sure ≡ c.args.sure.now ++ sure_level (block_view c.in-Loop.body) =
    body_left c.args.sure.now _ _ c.in_ok-left-in-Loop.left (block_view c.in-Loop.body) c.in_ok-left-in-Loop.ensures.scope c.in_ok-left-in-Loop.ensures.left c.cut_after.ensures.cut in
    loop_scope c.args.sure.now c.cut_after.new.sure _ _ _ s (block_view c.in-Loop.body) (block_view c.in-Loop.continuing) c.in-Loop.break_if is left c.in_ok-check_part-in-Loop.ensures.scope c.len-count.ensures c.cut.ensures.cut
