-- The remaining types differ in some scalars exactly if the whole types do.
use Rattle.typing_forms.specs.judged.Resolutions.{types_view}
use Rattle.typing_forms.proofs.Shapes.{SameScalars}
use Rattle.typing_forms.proofs.conversions.differing_at.Given as goal

abbrev pub invariant-loop-bases : goal.invariant-loop-bases
invariant-loop-bases l = SameScalars (types_view l.fn.types) l.left l.right l.fn.from l.fn.goal

abbrev pub decreases-loop-bases : goal.decreases-loop-bases
decreases-loop-bases l = l.left
