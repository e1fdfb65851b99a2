-- The uses visited so far are included.
use Rattle.typing_infos.proofs.UseBits.{DominatesBelow}
use Rattle.typing_infos.proofs.uses.dominates.Given as goal

abbrev pub invariant-loop-index : goal.invariant-loop-index
invariant-loop-index l = DominatesBelow l.uses l.others l.index
