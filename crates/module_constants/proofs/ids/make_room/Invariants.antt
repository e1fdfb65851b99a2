-- there are as many words as counted, and their bits are unchanged
use Rattle.std.proofs.Common.{◌≡◌, ℕ, get_or, length}
use Rattle.module_constants.proofs.ids.make_room.Given as goal

abbrev pub invariant-loop : goal.invariant-loop
invariant-loop l = (length l.words.items ≡ l.counter) × ((q : ℕ) → get_or l.words.items q 0 ≡ get_or l.fn.words.items q 0)
