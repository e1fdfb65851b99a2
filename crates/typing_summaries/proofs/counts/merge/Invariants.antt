-- Merging the rest into the result so far gives the result of merging all.
use Rattle.std.proofs.Common.{◌≡◌, drop, length}
use Rattle.typing_summaries.specs.Tallies.{merged_from}
use Rattle.typing_summaries.proofs.counts.merge.Given as goal

abbrev pub invariant-loop-index : goal.invariant-loop-index
invariant-loop-index l = (merged_from l.index l.uses (drop l.index l.others) ≡ merged_from 0 l.fn.uses l.others) × (length l.uses ≡ length l.fn.uses)
