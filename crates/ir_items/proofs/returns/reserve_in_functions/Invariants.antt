use Rattle.std.proofs.Common.{◌≡◌, length, map, take}
use Rattle.ir_blocks.specs.IrArena.{entry_of}
use Rattle.ir_items.specs.found.Copies.{spanned_function}
use Rattle.ir_items.specs.judged.Returned.{FunctionsHaveRoom}
use Rattle.ir_items.proofs.returns.reserve_in_functions.Given as goal

abbrev pub invariant-loop-place : goal.invariant-loop-place
invariant-loop-place l =
    (length l.functions ≡ length l.fn.functions) × (map (entry_of spanned_function) l.functions ≡ map (entry_of spanned_function) l.fn.functions) × FunctionsHaveRoom (take l.place l.functions)
