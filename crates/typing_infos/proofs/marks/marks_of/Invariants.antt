-- The marks of the visited pairs, joined with those of the rest, are the marks of all.
use Rattle.std.proofs.Common.{◌≡◌, drop, fold}
use Rattle.typing_infos.specs.Marks.{marked_pair, marks_of}
use Rattle.typing_infos.proofs.marks.marks_of.Given as goal

abbrev pub invariant-loop-pair : goal.invariant-loop-pair
invariant-loop-pair l = fold marked_pair l.marks.items (drop l.pair-index l.pairs) ≡ marks_of l.pairs
