use Rattle.std.proofs.Common.{◌<◌, length, arith, ◌∙◌}
use Rattle.ir_blocks.proofs.RoomLemmas.{length_set}
use Rattle.ir_items.specs.found.Copies.{spanned_function}
use Rattle.ir_items.specs.judged.Returned.{FunctionHasRoom}
use Rattle.ir_items.proofs.EachLemmas.{entry_stays, entries_have, all_have}
use Rattle.ir_items.proofs.returns.reserve_in_functions.Goals as goal

pub returns-in_err-reserve_returns-clause-same : goal.returns-in_err-reserve_returns-clause-same
returns-in_err-reserve_returns-clause-same c =
    let lt : c.at.result < length c.loop-place.functions = omega (arith, c.loop-place.invariant.0, c.at.ensures, c.len-place-end.ensures.value) in
    entry_stays spanned_function c.loop-place.functions c.at.result c.get_mut.result.now c.reserve_returns.new.self lt c.get_mut.ensures.value c.reserve_returns.ensures.same ∙ c.loop-place.invariant.1

pub loop-place-preserved : goal.loop-place-preserved
loop-place-preserved c =
    let lt : c.at.result < length c.loop-place.functions = omega (arith, c.loop-place.invariant.0, c.at.ensures, c.len-place-end.ensures.value) in (
      length_set c.loop-place.functions c.at.result _ ∙ c.loop-place.invariant.0,
      entry_stays spanned_function c.loop-place.functions c.at.result c.get_mut.result.now c.reserve_returns.new.self lt c.get_mut.ensures.value c.reserve_returns.ensures.same ∙ c.loop-place.invariant.1,
      entries_have FunctionHasRoom c.loop-place.functions c.at.result c.loop-place.place c.reserve_returns.new.self c.at.ensures lt c.loop-place.invariant.2 c.in_ok-reserve_returns.ensures.room,
    )

pub returns-clause-room : goal.returns-clause-room
returns-clause-room c = all_have (λ f. FunctionHasRoom f.0) c.loop-place.functions c.loop-place.place (omega (arith, c.loop-place.invariant.0, c.len-place-end.ensures.value)) c.loop-place.invariant.2
