use Rattle.std.proofs.Common.{rules, Err, MatchResult, ◌≡◌, refl, sym, ap, subst}
use Rattle.ir_blocks.specs.declared.statements.Statement.{the_lemmas}
use Rattle.ir_blocks.specs.found.View.{statement_view, block_view}
use Rattle.ir_blocks.specs.judged.Plain.{if_, loop, break, continue, return}
use Rattle.ir_blocks.specs.judged.Shapes.{accepting, loop_body, part_of, shape_of}
use Rattle.ir_places.proofs.TrailLaws.{block_is, item_at, stepped_out}
use Rattle.ir_places.specs.Paths.{IsPlaced, part_view}
use Rattle.function_body_checks.proofs.ControlPlaces.{left_in_block, left_in_case, left_in_part, left_here, bad_break, bad_continue, bad_return, none_left, case_more}
use Rattle.function_body_checks.specs.Allowed.{view_of, AllLeave, LeavesWithin, LeftAt, LeftFrom, LeftInPart}
use Rattle.function_body_checks.specs.declared.allowed.Wrong.TheVariants as wrong
use Rattle.function_body_checks.proofs.control.+walk.Goals as goal

pub check_block-returns : goal.check_block-returns
check_block-returns t c =
    subst (AllLeave (view_of c.args.allowed)) (block_is c.args.block.now c.as_slice-statement-items.result.now c.as_slice-statement-items.ensures)
    (none_left (view_of c.args.allowed) c.as_slice-statement-items.result.now c.loop-index.index (search rules) c.loop-index.invariant)

pub check_block-returns-in-Err : goal.check_block-returns-in-Err
check_block-returns-in-Err t c =
    left_in_block c.check_statement.new.trail c.in-Err.wrong (view_of c.args.allowed) c.args.block.now c.as_slice-statement-items.result.now c.as_slice-statement-items.ensures c.loop-index.index c.statement-item.result
    (item_at c.as_slice-statement-items.result.now c.loop-index.index c.statement-item.result (search rules) c.statement-item.is) c.in-Err.ensures

pub check_part-returns-in-Err : goal.check_part-returns-in-Err
check_part-returns-in-Err t c =
    stepped_out c.inside.new.self c.check_block.new.trail (record { index = c.args.index; part = c.args.part }) (LeftAt c.in-Err.wrong (view_of c.args.allowed) (block_view c.args.block.now))
    (LeftInPart c.in-Err.wrong (view_of c.args.allowed) c.args.index (part_view c.args.part) (block_view c.args.block.now))
    c.inside.ensures c.in-Err.ensures (λ q h. (q, refl, h))

pub check_cases-loop-number-preserved : goal.check_cases-loop-number-preserved
check_cases-loop-number-preserved t c = λ rest. c.loop-number.invariant (case_more (view_of c.args.allowed) c.args.cases.now c.loop-number.number c.index-cases-number.result (search rules) c.index-cases-number.is c.in-Ok.ensures rest)

pub check_cases-returns-in-Err : goal.check_cases-returns-in-Err
check_cases-returns-in-Err t c =
    left_in_case c.check_part.new.trail c.in-Err.wrong (view_of c.args.allowed) c.args.index c.args.cases.now c.loop-number.number c.index-cases-number.result
    (item_at c.args.cases.now c.loop-number.number c.index-cases-number.result (search rules) c.index-cases-number.is) c.in-Err.ensures

pub check_statement-returns-else-allowed : goal.check_statement-returns-else-allowed
check_statement-returns-else-allowed t c =
    let is : statement_view c.args.statement.now ≡ break = search (rules, the_lemmas) in
    left_here c.stand.new.self wrong.Break (view_of c.args.allowed) c.args.index (statement_view c.args.statement.now) c.stand.ensures.place
    (bad_break (view_of c.args.allowed) (statement_view c.args.statement.now) is c.if-allowed.false)

pub check_statement-returns-else-allowed-2 : goal.check_statement-returns-else-allowed-2
check_statement-returns-else-allowed-2 t c =
    let is : statement_view c.args.statement.now ≡ continue = search (rules, the_lemmas) in
    left_here c.stand-else-allowed-2.new.self wrong.Continue (view_of c.args.allowed) c.args.index (statement_view c.args.statement.now) c.stand-else-allowed-2.ensures.place
    (bad_continue (view_of c.args.allowed) (statement_view c.args.statement.now) is c.if-allowed-2.false)

pub check_statement-returns-else-allowed-3 : goal.check_statement-returns-else-allowed-3
check_statement-returns-else-allowed-3 t c =
    let is : statement_view c.args.statement.now ≡ return c.in-Return.value = search (rules, the_lemmas) in
    left_here c.stand-else-allowed-3.new.self wrong.Return (view_of c.args.allowed) c.args.index (statement_view c.args.statement.now) c.stand-else-allowed-3.ensures.place
    (bad_return (view_of c.args.allowed) (statement_view c.args.statement.now) c.in-Return.value is c.if-allowed-3.false)

pub check_statement-returns-in_err-check_part-in-If : goal.check_statement-returns-in_err-check_part-in-If
check_statement-returns-in_err-check_part-in-If t c =
    let m = view_of c.args.allowed in
    let s = statement_view c.args.statement.now in
    let is : s ≡ if_ c.in-If.condition (block_view c.in-If.accept) (block_view c.in-If.reject) = search (rules, the_lemmas) in
    let told : IsPlaced c.check_part-in-If.new.trail (LeftFrom c.in_err-check_part-in-If.field-0.0 m c.args.index s) =
    left_in_part c.check_part-in-If.new.trail c.in_err-check_part-in-If.field-0.0 m c.args.index accepting s (block_view c.in-If.accept) (ap (λ x. part_of (shape_of x) accepting) (sym is)) c.in_err-check_part-in-If.ensures in
    let same : c.from_residual.result ≡ Err c.in_err-check_part-in-If.field-0.0 = search rules in
    subst (λ x. MatchResult x (λ done. LeavesWithin m s) (λ e. IsPlaced c.check_part-in-If.new.trail (LeftFrom e m c.args.index s))) (sym same) told

pub check_statement-returns-in_err-check_part-in-Loop : goal.check_statement-returns-in_err-check_part-in-Loop
check_statement-returns-in_err-check_part-in-Loop t c =
    let m = view_of c.args.allowed in
    let s = statement_view c.args.statement.now in
    let is : s ≡ loop (block_view c.in-Loop.body) (block_view c.in-Loop.continuing) c.in-Loop.break_if = search (rules, the_lemmas) in
    let told : IsPlaced c.check_part-in-Loop.new.trail (LeftFrom c.in_err-check_part-in-Loop.field-0.0 m c.args.index s) =
    left_in_part c.check_part-in-Loop.new.trail c.in_err-check_part-in-Loop.field-0.0 m c.args.index loop_body s (block_view c.in-Loop.body) (ap (λ x. part_of (shape_of x) loop_body) (sym is))
    (subst (λ v. IsPlaced c.check_part-in-Loop.new.trail (LeftInPart c.in_err-check_part-in-Loop.field-0.0 v c.args.index loop_body (block_view c.in-Loop.body))) c.in_loop.ensures c.in_err-check_part-in-Loop.ensures) in
    let same : c.from_residual-in_err-check_part-in-Loop.result ≡ Err c.in_err-check_part-in-Loop.field-0.0 = search rules in
    subst (λ x. MatchResult x (λ done. LeavesWithin m s) (λ e. IsPlaced c.check_part-in-Loop.new.trail (LeftFrom e m c.args.index s))) (sym same) told
