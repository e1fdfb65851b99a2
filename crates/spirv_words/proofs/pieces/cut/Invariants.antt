-- The instructions so far stand one after the other, up to the next word.
use Rattle.std.proofs.Common.{◌-◌, ◌≤◌, length}
use Rattle.spirv_words.specs.Pieces.{Covers}
use Rattle.spirv_words.proofs.pieces.cut.Given as goal

abbrev pub invariant-loop-start : goal.invariant-loop-start
invariant-loop-start l = record {
  covers : Covers l.words 5 l.start l.pieces.items;
  within : l.start ≤ length l.words;
}

abbrev pub decreases-loop-start : goal.decreases-loop-start
decreases-loop-start l = length l.words - l.start
