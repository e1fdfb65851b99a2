-- Inserted, or in the rest, means in the whole list.
use Rattle.typing_infos.proofs.IndexLemmas.{AreAll}
use Rattle.typing_infos.proofs.pair_set.codes_of.Given as goal

abbrev pub invariant-loop-pair : goal.invariant-loop-pair
invariant-loop-pair l = AreAll l.codes l.pairs l.pair-index
