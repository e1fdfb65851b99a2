use Rattle.std.proofs.Common.{◌≡◌, length, map, take}
use Rattle.ir_items.specs.found.Copies.{spanned_entry}
use Rattle.ir_items.specs.judged.Returned.{EntriesHaveRoom}
use Rattle.ir_items.proofs.returns.reserve_in_entries.Given as goal

abbrev pub invariant-loop-place : goal.invariant-loop-place
invariant-loop-place l =
    (length l.entries.items ≡ length l.fn.entries.items) × (map spanned_entry l.entries.items ≡ map spanned_entry l.fn.entries.items) × EntriesHaveRoom (take l.place l.entries.items)
