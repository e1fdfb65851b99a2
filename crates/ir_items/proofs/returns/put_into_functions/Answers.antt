use Rattle.std.proofs.Common.{◌<◌, ◌≤◌, length, arith, ◌∙◌}
use Rattle.ir_blocks.proofs.RoomLemmas.{all_done}
use Rattle.ir_blocks.specs.IrArena.{entry_of}
use Rattle.ir_items.specs.found.Copies.{spanned_function}
use Rattle.ir_items.specs.judged.Returned.{FunctionHasRoom, returned_function_spans}
use Rattle.ir_items.proofs.EachLemmas.{entry_done, entry_has, both_maps, unvisited_entry}
use Rattle.ir_items.proofs.returns.put_into_functions.Goals as goal

pub put_returns-requires : goal.put_returns-requires
put_returns-requires c =
    let lt : c.at.result < length c.loop-place.functions = omega (arith, c.loop-place.invariant.0.0, c.at.ensures, c.len-place-end.ensures.value) in
    entry_has FunctionHasRoom c.loop-place.functions c.args.functions.now c.at.result c.loop-place.place c.get_mut.result.now c.at.ensures lt c.get_mut.ensures.value c.loop-place.invariant.0 c.requires

pub loop-place-preserved : goal.loop-place-preserved
loop-place-preserved c =
    let lt : c.at.result < length c.loop-place.functions = omega (arith, c.loop-place.invariant.0.0, c.at.ensures, c.len-place-end.ensures.value) in (
      unvisited_entry c.loop-place.functions c.args.functions.now c.at.result c.loop-place.place c.put_returns.new.self c.at.ensures c.loop-place.invariant.0,
      entry_done spanned_function returned_function_spans c.loop-place.functions c.args.functions.now c.at.result c.loop-place.place c.get_mut.result.now c.put_returns.new.self
          c.at.ensures lt c.get_mut.ensures.value c.loop-place.invariant.0 c.put_returns.ensures c.loop-place.invariant.1,
    )

pub returns : goal.returns
returns c =
    let past : length c.args.functions.now ≤ c.loop-place.place = omega (arith, c.len-place-end.ensures.value) in
    all_done (entry_of spanned_function) (λ f. entry_of returned_function_spans (entry_of spanned_function f)) c.loop-place.functions c.args.functions.now c.loop-place.place past c.loop-place.invariant.0 c.loop-place.invariant.1
    ∙ both_maps (entry_of returned_function_spans) (entry_of spanned_function) c.args.functions.now
