-- The marks of those before have numbers, which are found.
use Rattle.std.proofs.Common.{ℕ, ◌<◌, Contains}
use Rattle.function_varyings.specs.Marks.{IsNumber, KeepsNumbers, TakesAt}
use Rattle.function_varyings.proofs.marks.numbers_of.Given as goal

abbrev pub invariant-loop-place : goal.invariant-loop-place
invariant-loop-place l = KeepsNumbers l.fn.numbers l.numbers
    × ((place mark : ℕ) → place < l.place → TakesAt l.flags l.varyings place mark → (n : ℕ) × IsNumber l.numbers mark n × Contains l.found.items n)
