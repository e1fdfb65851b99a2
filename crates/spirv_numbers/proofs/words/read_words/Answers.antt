-- All words are read where the loop ends.
use Rattle.std.proofs.Common.{rules}
use Rattle.spirv_numbers.proofs.Spelled.{reads, words_length}
use Rattle.spirv_numbers.proofs.words.read_words.Goals as goal

pub returns-clause-words : goal.returns-clause-words
returns-clause-words c = reads c.in_ok-order.order c.args.bytes.now c.loop-place.words.items c.loop-place.place (search rules) (search rules) (search rules) (search rules) c.in_ok-order.ensures.found c.loop-place.invariant

pub returns-clause-header : goal.returns-clause-header
returns-clause-header c = rw c.loop-place.invariant (rw (words_length c.in_ok-order.order c.args.bytes.now c.loop-place.place) (search rules))
