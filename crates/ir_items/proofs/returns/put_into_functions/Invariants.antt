use Rattle.std.proofs.Common.{◌≡◌, map, take}
use Rattle.ir_blocks.proofs.RoomLemmas.{Unvisited}
use Rattle.ir_blocks.specs.IrArena.{entry_of}
use Rattle.ir_items.specs.found.Copies.{spanned_function}
use Rattle.ir_items.specs.judged.Returned.{returned_function_spans}
use Rattle.ir_items.proofs.returns.put_into_functions.Given as goal

abbrev pub invariant-loop-place : goal.invariant-loop-place
invariant-loop-place l =
    Unvisited l.functions l.fn.functions l.place × (map (entry_of spanned_function) (take l.place l.functions) ≡ map (λ f. entry_of returned_function_spans (entry_of spanned_function f)) (take l.place l.fn.functions))
