-- The marks with the index set equal the original marks with it set.
use Rattle.std.proofs.Common.{◌≡◌, ◌+◌, ◌-◌, length}
use Rattle.typing_infos.specs.Marks.{marked_at}
use Rattle.typing_infos.proofs.marks.mark.Given as goal

abbrev pub invariant-loop-marks : goal.invariant-loop-marks
invariant-loop-marks l = marked_at l.marks.items l.place ≡ marked_at l.fn.marks.items l.place

abbrev pub decreases-loop-marks : goal.decreases-loop-marks
decreases-loop-marks l = l.place + 1 - length l.marks.items
