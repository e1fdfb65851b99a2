-- What those before take is taken, and was not.
use Rattle.std.proofs.Common.{◌≡◌, ◌<◌, ℕ, List, true, false}
use Rattle.ir_sets.specs.Bits.{has_bit}
use Rattle.ir_types.specs.judged.Plain.{PlainType}
use Rattle.function_varyings.specs.Marks.{AreMarksOf, IsNumber, KeepsBits, KeepsNumbers, TakesAt}
use Rattle.function_varyings.proofs.marks.Marks.take_each.Given as goal

abbrev pub invariant-loop-place : goal.invariant-loop-place
invariant-loop-place l = KeepsNumbers l.fn.self.numbers l.self.numbers × ((types : List PlainType) → AreMarksOf l.flags types l.fn.self → AreMarksOf l.flags types l.self) × KeepsBits l.fn.taken.items l.taken.items
    × ((place mark : ℕ) → place < l.place → TakesAt l.flags l.varyings place mark → (n : ℕ) × IsNumber l.self.numbers mark n × (has_bit l.taken.items n ≡ true) × (has_bit l.fn.taken.items n ≡ false))
