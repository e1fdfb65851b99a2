-- What the words before have is taken, and was not.
use Rattle.std.proofs.Common.{◌≡◌, ℕ, true, false}
use Rattle.ir_sets.specs.Bits.{has_bit}
use Rattle.function_varyings.specs.Marks.{IsAmong, KeepsBits}
use Rattle.function_varyings.proofs.marks.take_words.Given as goal

abbrev pub invariant-loop-place : goal.invariant-loop-place
invariant-loop-place l = KeepsBits l.fn.taken.items l.taken.items
    × ((n : ℕ) → IsAmong l.words l.fn.part.from l.place n → (has_bit l.taken.items n ≡ true) × (has_bit l.fn.taken.items n ≡ false))
