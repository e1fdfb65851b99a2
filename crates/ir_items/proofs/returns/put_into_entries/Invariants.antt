use Rattle.std.proofs.Common.{◌≡◌, map, take}
use Rattle.ir_blocks.proofs.RoomLemmas.{Unvisited}
use Rattle.ir_items.specs.found.Copies.{spanned_entry}
use Rattle.ir_items.specs.judged.Returned.{returned_entry_spans}
use Rattle.ir_items.proofs.returns.put_into_entries.Given as goal

abbrev pub invariant-loop-place : goal.invariant-loop-place
invariant-loop-place l =
    Unvisited l.entries.items l.fn.entries.items l.place × (map spanned_entry (take l.place l.entries.items) ≡ map (λ e. returned_entry_spans (spanned_entry e)) (take l.place l.fn.entries.items))
