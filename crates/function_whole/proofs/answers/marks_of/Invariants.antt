use Rattle.std.proofs.Common.{◌≡◌, length}
use Rattle.function_whole.proofs.Marks.{MarkedBelow}
use Rattle.function_whole.proofs.answers.marks_of.Given as goal

-- those before are marked
abbrev pub invariant-loop-index : goal.invariant-loop-index
invariant-loop-index l = (length l.marks.items ≡ l.index) × MarkedBelow l.answered l.marks.items l.index
