use Rattle.std.proofs.Common.{◌<◌, length, arith, ◌∙◌}
use Rattle.ir_blocks.proofs.RoomLemmas.{length_set, same_looks}
use Rattle.ir_items.specs.found.Copies.{spanned_entry}
use Rattle.ir_items.specs.judged.Returned.{EntryHasRoom}
use Rattle.ir_items.proofs.EachLemmas.{more_have, all_have}
use Rattle.ir_items.proofs.returns.reserve_in_entries.Goals as goal

pub returns-in_err-reserve_returns-clause-same : goal.returns-in_err-reserve_returns-clause-same
returns-in_err-reserve_returns-clause-same c =
    let lt : c.loop-place.place < length c.loop-place.entries.items = omega (arith, c.loop-place.invariant.0, c.args.entries.now.ok.0) in
    same_looks spanned_entry _ _ _ _ lt c.index_mut.ensures.value c.reserve_returns.ensures.same ∙ c.loop-place.invariant.1

pub loop-place-preserved : goal.loop-place-preserved
loop-place-preserved c =
    let lt : c.loop-place.place < length c.loop-place.entries.items = omega (arith, c.loop-place.invariant.0, c.args.entries.now.ok.0) in (
      length_set c.loop-place.entries.items c.loop-place.place _ ∙ c.loop-place.invariant.0,
      same_looks spanned_entry _ _ _ _ lt c.index_mut.ensures.value c.reserve_returns.ensures.same ∙ c.loop-place.invariant.1,
      more_have EntryHasRoom c.loop-place.entries.items c.loop-place.place c.reserve_returns.new.self lt c.loop-place.invariant.2 c.in_ok-reserve_returns.ensures.room,
    )

pub returns-clause-same : goal.returns-clause-same
returns-clause-same c = c.loop-place.invariant.1

pub returns-clause-room : goal.returns-clause-room
returns-clause-room c = all_have EntryHasRoom c.loop-place.entries.items c.loop-place.place (omega (arith, c.loop-place.invariant.0, c.args.entries.now.ok.0)) c.loop-place.invariant.2
