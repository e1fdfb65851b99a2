-- The numbers before are among the words, or in the one that is not added yet.
use Rattle.std.proofs.Common.{ℕ, ◌<◌, ◌≤◌, ◌⊎◌, get_or, length}
use Rattle.function_varyings.specs.Marks.{IsAmong, IsIn, KeepsWords}
use Rattle.function_varyings.proofs.marks.add_words.Given as goal

abbrev pub invariant-loop-place : goal.invariant-loop-place
invariant-loop-place l = KeepsWords l.fn.words.items l.words.items × (length l.fn.words.items ≤ length l.words.items)
    × ((k : ℕ) → k < l.place → IsAmong l.words.items (length l.fn.words.items) (length l.words.items) (get_or l.numbers k 0) ⊎ IsIn l.word (get_or l.numbers k 0))
