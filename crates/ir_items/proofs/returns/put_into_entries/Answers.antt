use Rattle.std.proofs.Common.{◌<◌, ◌≤◌, length, arith, ◌∙◌}
use Rattle.ir_blocks.proofs.RoomLemmas.{unvisited_more, done_more, all_done}
use Rattle.ir_items.specs.found.Copies.{spanned_entry}
use Rattle.ir_items.specs.judged.Returned.{EntryHasRoom, returned_entry_spans}
use Rattle.ir_items.proofs.EachLemmas.{here_has, both_maps}
use Rattle.ir_items.proofs.returns.put_into_entries.Goals as goal

pub put_returns-requires : goal.put_returns-requires
put_returns-requires c =
    let lt : c.loop-place.place < length c.args.entries.now.items = omega (arith, c.loop-place.invariant.0.0, c.args.entries.now.ok.0) in
    here_has EntryHasRoom c.loop-place.entries.items c.args.entries.now.items c.loop-place.place c.index_mut.result.now c.index_mut.ensures.value c.loop-place.invariant.0 lt c.requires

pub loop-place-preserved : goal.loop-place-preserved
loop-place-preserved c =
    let lt : c.loop-place.place < length c.loop-place.entries.items = omega (arith, c.loop-place.invariant.0.0, c.args.entries.now.ok.0) in (
      unvisited_more _ _ _ _ c.loop-place.invariant.0,
      done_more spanned_entry (λ e. returned_entry_spans (spanned_entry e)) _ _ _ c.index_mut.result.now _ lt c.loop-place.invariant.0 c.index_mut.ensures.value c.put_returns.ensures c.loop-place.invariant.1,
    )

pub returns : goal.returns
returns c =
    let past : length c.args.entries.now.items ≤ c.loop-place.place = omega (arith, c.args.entries.now.ok.0) in
    all_done spanned_entry (λ e. returned_entry_spans (spanned_entry e)) c.loop-place.entries.items c.args.entries.now.items c.loop-place.place past c.loop-place.invariant.0 c.loop-place.invariant.1
    ∙ both_maps returned_entry_spans spanned_entry c.args.entries.now.items
