use Rattle.std.proofs.Common.{◌≡◌, ◌*◌, length}
use Rattle.ir_sets.specs.Bits.{bits_from}
use Rattle.ir_sets.proofs.bits.count.Given as goal

abbrev pub invariant-loop-word : goal.invariant-loop-word
invariant-loop-word l = l.total ≡ length (bits_from l.words 0 (64 * l.word-index))
