use Rattle.std.proofs.Common.{◌≡◌, ◌+◌, ◌-◌, ◌<◌, ◌≤◌, take, length, IsOk, subst, true≢false, true, false, refl, sym, ap, ◌∙◌, arith}
use Rattle.std.proofs.Math.ListN.{set}
use Rattle.ir_blocks.specs.judged.Shapes.{shape_of}
use Rattle.ir_blocks.specs.found.Padded.{padded}
use Rattle.ir_blocks.specs.judged.Tails.{goes_on, finished_case}
use Rattle.ir_blocks.specs.found.TailSpans.{finished_case_body}
use Rattle.ir_blocks.specs.found.View.{cases_of, case_spans_of, statement_view, case_view, case_block_spans, statements_of, spans_of}
use Rattle.ir_blocks.proofs.TerminatorLemmas.{block_view-statements, complete_stays, complete_adds}
use Rattle.ir_blocks.proofs.SpanLemmas.{block_spans-lists, spans_over-lists, spans_stay, spans_added}
use Rattle.ir_blocks.proofs.RoomLemmas.{at_end, set_end, length_set, same_at, block_view-roll, block_spans-roll, finished_on, finished_spans_on, on_ok_then, on_ok_both, own_known, within_last, room_here, unvisited_more, done_more, all_done, cases_finished, case_spans_finished}
use Rattle.ir_blocks.proofs.returns.+adds.Goals as goal

pub add_returns-returns-then-open-clause-statements : goal.add_returns-returns-then-open-clause-statements
add_returns-returns-then-open-clause-statements t c =
    let last : (c.len-len.result - 1) + 1 ≡ length c.args.block.now.body.items = omega (arith, c.args.block.now.body.ok.0) in
    let on : goes_on (shape_of (statement_view c.index.result.now)) ≡ true = sym c.goes_on-open.ensures ∙ c.if-open.true in
    let split = at_end c.args.block.now.body.items (c.len-len.result - 1) c.index.result.now last c.index.ensures in
    let prefix = take (c.len-len.result - 1) c.args.block.now.body.items in
    on_ok_then _ c.add_one-then-open.ensures.statements (λ all. block_view-statements c.add_one-then-open.new.block
    ∙ complete_adds c.args.block.now prefix prefix c.args.block.now.body.items (statements_of c.add_one-then-open.new.block) c.index.result.now c.index.result.now
    split refl (sym (finished_on _ on)) on split all)

pub add_returns-returns-then-open-clause-spans : goal.add_returns-returns-then-open-clause-spans
add_returns-returns-then-open-clause-spans t c =
    let last : (c.len-len.result - 1) + 1 ≡ length c.args.block.now.body.items = omega (arith, c.args.block.now.body.ok.0) in
    let on : goes_on (shape_of (statement_view c.index.result.now)) ≡ true = sym c.goes_on-open.ensures ∙ c.if-open.true in
    let split = at_end c.args.block.now.body.items (c.len-len.result - 1) c.index.result.now last c.index.ensures in
    let prefix = take (c.len-len.result - 1) c.args.block.now.body.items in
    on_ok_both _ c.add_one-then-open.ensures.within c.add_one-then-open.ensures.spans (λ all kept. block_spans-lists c.add_one-then-open.new.block
    ∙ spans_added c.args.block.now prefix prefix c.args.block.now.body.items (statements_of c.add_one-then-open.new.block) c.index.result.now c.index.result.now (spans_of c.add_one-then-open.new.block)
    split refl (sym (finished_spans_on _ _ on)) on split all kept)

pub add_returns-returns-then-open-clause-succeeds : goal.add_returns-returns-then-open-clause-succeeds
add_returns-returns-then-open-clause-succeeds t c =
    let last : (c.len-len.result - 1) + 1 ≡ length c.args.block.now.body.items = omega (arith, c.args.block.now.body.ok.0) in
    λ room. c.add_one-then-open.ensures.succeeds (own_known c.args.block.now (c.len-len.result - 1) c.index.result.now last c.index.ensures (sym c.goes_on-open.ensures ∙ c.if-open.true) room)

pub add_returns-returns-clause-succeeds : goal.add_returns-returns-clause-succeeds
add_returns-returns-clause-succeeds t c =
    let last : (c.len-len.result - 1) + 1 ≡ length c.args.block.now.body.items = omega (arith, c.args.block.now.body.ok.0) in
    λ room. c.add_within.ensures.succeeds (within_last c.args.block.now (c.len-len.result - 1) c.index.result.now c.index_mut.result.now c.goes_on-open.result c.index_mut.ensures.value c.index.ensures c.goes_on-open.ensures c.if-open.false last room)

pub add_returns-returns-clause-statements : goal.add_returns-returns-clause-statements
add_returns-returns-clause-statements t c =
    let last : (c.len-len.result - 1) + 1 ≡ length c.args.block.now.body.items = omega (arith, c.args.block.now.body.ok.0) in
    let at : (c.len-len.result - 1) < length c.args.block.now.body.items = omega (arith, c.args.block.now.body.ok.0) in
    let same : c.index_mut.result.now ≡ c.index.result.now = c.index_mut.ensures.value ∙ (same_at c.args.block.now.body.items (c.len-len.result - 1) _ _ at ∙ sym c.index.ensures) in
    let off : goes_on (shape_of (statement_view c.index_mut.result.now)) ≡ false = ap (λ z. goes_on (shape_of (statement_view z))) same ∙ (sym c.goes_on-open.ensures ∙ c.if-open.false) in
    let prefix = take (c.len-len.result - 1) c.args.block.now.body.items in
    on_ok_then _ c.add_within.ensures.statement (λ end. block_view-roll _ _ ∙ complete_stays c.args.block.now prefix prefix _ c.index_mut.result.now c.add_within.new.statement
    (at_end c.args.block.now.body.items (c.len-len.result - 1) c.index_mut.result.now last c.index_mut.ensures.value) refl end off
    (set_end c.args.block.now.body.items (c.len-len.result - 1) c.add_within.new.statement last))

pub add_returns-returns-clause-spans : goal.add_returns-returns-clause-spans
add_returns-returns-clause-spans t c =
    let last : (c.len-len.result - 1) + 1 ≡ length c.args.block.now.body.items = omega (arith, c.args.block.now.body.ok.0) in
    let at : (c.len-len.result - 1) < length c.args.block.now.body.items = omega (arith, c.args.block.now.body.ok.0) in
    let same : c.index_mut.result.now ≡ c.index.result.now = c.index_mut.ensures.value ∙ (same_at c.args.block.now.body.items (c.len-len.result - 1) _ _ at ∙ sym c.index.ensures) in
    let off : goes_on (shape_of (statement_view c.index_mut.result.now)) ≡ false = ap (λ z. goes_on (shape_of (statement_view z))) same ∙ (sym c.goes_on-open.ensures ∙ c.if-open.false) in
    let prefix = take (c.len-len.result - 1) c.args.block.now.body.items in
    let changed = set c.args.block.now.body.items (c.len-len.result - 1) c.add_within.new.statement in
    let kept = c.args.block.now.span_info in
    on_ok_then _ c.add_within.ensures.spans (λ end. block_spans-roll _ _ ∙ (spans_over-lists kept changed ∙ spans_stay c.args.block.now prefix prefix _ c.index_mut.result.now c.add_within.new.statement (padded (length changed) kept)
    (at_end c.args.block.now.body.items (c.len-len.result - 1) c.index_mut.result.now last c.index_mut.ensures.value) refl end off
    (set_end c.args.block.now.body.items (c.len-len.result - 1) c.add_within.new.statement last) (ap (λ n. padded n kept) (length_set c.args.block.now.body.items (c.len-len.result - 1) c.add_within.new.statement))))

pub add_to_cases-loop-index-preserved : goal.add_to_cases-loop-index-preserved
add_to_cases-loop-index-preserved t c =
    let here : c.loop-index.index < length c.loop-index.cases.items = omega arith in (
      unvisited_more _ _ _ _ c.loop-index.invariant.0,
      (
        done_more case_view (λ z. finished_case (case_view z)) _ _ _ c.index_mut.result.now _ here c.loop-index.invariant.0 c.index_mut.ensures.value c.in_ok-add_to_case.ensures.case c.loop-index.invariant.1.0,
        done_more case_block_spans (λ z. finished_case_body (case_view z) (case_block_spans z)) _ _ _ c.index_mut.result.now _ here c.loop-index.invariant.0 c.index_mut.ensures.value c.in_ok-add_to_case.ensures.spans c.loop-index.invariant.1.1,
      ),
    )

pub add_to_cases-returns-clause-cases : goal.add_to_cases-returns-clause-cases
add_to_cases-returns-clause-cases t c =
    let past : length c.args.cases.now.items ≤ c.loop-index.index = omega (arith, c.args.cases.now.ok.0) in
    ap cases_of (all_done case_view (λ z. finished_case (case_view z)) _ c.args.cases.now.items c.loop-index.index past c.loop-index.invariant.0 c.loop-index.invariant.1.0) ∙ cases_finished c.args.cases.now.items

pub add_to_cases-returns-clause-spans : goal.add_to_cases-returns-clause-spans
add_to_cases-returns-clause-spans t c =
    let past : length c.args.cases.now.items ≤ c.loop-index.index = omega (arith, c.args.cases.now.ok.0) in
    ap case_spans_of (all_done case_block_spans (λ z. finished_case_body (case_view z) (case_block_spans z)) _ c.args.cases.now.items c.loop-index.index past c.loop-index.invariant.0 c.loop-index.invariant.1.1) ∙ case_spans_finished c.args.cases.now.items

pub add_to_cases-returns-in_err-add_to_case-clause-succeeds : goal.add_to_cases-returns-in_err-add_to_case-clause-succeeds
add_to_cases-returns-in_err-add_to_case-clause-succeeds t c = λ all.
    let here : c.loop-index.index < length c.args.cases.now.items = omega (arith, c.loop-index.invariant.0.0) in
    let ok : IsOk c.add_to_case.result = c.add_to_case.ensures.succeeds (room_here c.args.cases.now.items c.loop-index.cases.items c.loop-index.index c.index_mut.result.now c.index_mut.ensures.value c.loop-index.invariant.0 here all) in
    absurd (true≢false (sym (subst IsOk c.in_err-add_to_case.was ok)))
