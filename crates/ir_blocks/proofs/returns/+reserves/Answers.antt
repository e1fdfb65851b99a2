use Rattle.std.proofs.Common.{◌≡◌, ◌+◌, ◌-◌, ◌<◌, length, false, sym, ap, ◌∙◌, arith}
use Rattle.ir_blocks.specs.judged.Shapes.{shape_of}
use Rattle.ir_blocks.specs.judged.Tails.{goes_on}
use Rattle.ir_blocks.specs.found.View.{block_of, spans_over, statement_view, statement_spans, case_view, case_block_spans}
use Rattle.ir_blocks.proofs.TerminatorLemmas.{block_view-statements}
use Rattle.ir_blocks.proofs.SpanLemmas.{block_spans-over}
use Rattle.ir_blocks.proofs.RoomLemmas.{same_looks, same_at, block_view-roll, block_spans-roll, block_room-roll, on_ok_then, room_made, room_within, unvisited_more, room_more}
use Rattle.ir_blocks.proofs.returns.+reserves.Goals as goal

pub reserve_returns-returns-then-goes_on-clause-room : goal.reserve_returns-returns-then-goes_on-clause-room
reserve_returns-returns-then-goes_on-clause-room t c =
    on_ok_then _ c.reserve_one-then-goes_on.ensures.room (λ room.
    room_made c.args.block.now c.reserve_one-then-goes_on.new.block (c.len-len.result - 1) c.index.result.now (omega arith) c.index.ensures (sym c.goes_on.ensures ∙ c.if-goes_on.true) c.reserve_one-then-goes_on.ensures.statements room)

pub reserve_returns-returns-clause-statements : goal.reserve_returns-returns-clause-statements
reserve_returns-returns-clause-statements t c =
    block_view-roll _ _ ∙ (ap block_of (same_looks statement_view _ _ _ _ (omega arith) c.index_mut.ensures.value c.reserve_within.ensures.statement) ∙ sym (block_view-statements c.args.block.now))

pub reserve_returns-returns-clause-spans : goal.reserve_returns-returns-clause-spans
reserve_returns-returns-clause-spans t c =
    block_spans-roll _ _ ∙ (ap (spans_over c.args.block.now.span_info) (same_looks statement_spans _ _ _ _ (omega arith) c.index_mut.ensures.value c.reserve_within.ensures.spans) ∙ sym (block_spans-over c.args.block.now))

pub reserve_returns-returns-clause-room : goal.reserve_returns-returns-clause-room
reserve_returns-returns-clause-room t c =
    let last : (c.len-len.result - 1) + 1 ≡ length c.args.block.now.body.items = omega (arith, c.args.block.now.body.ok.0) in
    let at : (c.len-len.result - 1) < length c.args.block.now.body.items = omega (arith, c.args.block.now.body.ok.0) in
    let same : c.index_mut.result.now ≡ c.index.result.now = c.index_mut.ensures.value ∙ (same_at c.args.block.now.body.items (c.len-len.result - 1) _ _ at ∙ sym c.index.ensures) in
    let off : goes_on (shape_of (statement_view c.index_mut.result.now)) ≡ false = ap (λ z. goes_on (shape_of (statement_view z))) same ∙ (sym c.goes_on.ensures ∙ c.if-goes_on.false) in
    on_ok_then _ c.reserve_within.ensures.room (λ room. block_room-roll _ _
    ∙ room_within _ c.args.block.now.body.items (c.len-len.result - 1) c.index_mut.result.now c.reserve_within.new.statement last c.index_mut.ensures.value off c.reserve_within.ensures.statement room)

pub reserve_cases-returns-in_err-reserve_case-clause-cases : goal.reserve_cases-returns-in_err-reserve_case-clause-cases
reserve_cases-returns-in_err-reserve_case-clause-cases t c =
    same_looks case_view _ _ _ _ (omega arith) c.index_mut.ensures.value c.reserve_case.ensures.case ∙ c.loop-index.invariant.1.0

pub reserve_cases-returns-in_err-reserve_case-clause-spans : goal.reserve_cases-returns-in_err-reserve_case-clause-spans
reserve_cases-returns-in_err-reserve_case-clause-spans t c =
    same_looks case_block_spans _ _ _ _ (omega arith) c.index_mut.ensures.value c.reserve_case.ensures.spans ∙ c.loop-index.invariant.1.1.0

pub reserve_cases-loop-index-preserved : goal.reserve_cases-loop-index-preserved
reserve_cases-loop-index-preserved t c =
    let here : c.loop-index.index < length c.loop-index.cases.items = omega arith in (
      unvisited_more _ _ _ _ c.loop-index.invariant.0,
      (
        same_looks case_view _ _ _ _ here c.index_mut.ensures.value c.reserve_case.ensures.case ∙ c.loop-index.invariant.1.0,
        (
          same_looks case_block_spans _ _ _ _ here c.index_mut.ensures.value c.reserve_case.ensures.spans ∙ c.loop-index.invariant.1.1.0,
          room_more _ _ _ here c.loop-index.invariant.1.1.1 c.in_ok-reserve_case.ensures.room,
        ),
      ),
    )
