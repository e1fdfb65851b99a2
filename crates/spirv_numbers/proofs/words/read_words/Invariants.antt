-- The words so far are the first ones.
use Rattle.std.proofs.Common.{◌≡◌}
use Rattle.spirv_numbers.specs.Words.{words_in}
use Rattle.spirv_numbers.proofs.words.read_words.Given as goal

abbrev pub invariant-loop-place : goal.invariant-loop-place
invariant-loop-place l = l.words.items ≡ words_in l.order l.bytes l.place
