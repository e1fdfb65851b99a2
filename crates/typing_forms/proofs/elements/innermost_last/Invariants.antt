-- The rest of the chain has the same end as the whole chain.
use Rattle.ir_types.specs.judged.Plain.{inner_view}
use Rattle.typing_forms.specs.judged.Resolutions.{types_view}
use Rattle.typing_forms.specs.found.Elements.{last_of}
use Rattle.typing_forms.proofs.Walks.{SameEnds, steps}
use Rattle.typing_forms.proofs.elements.innermost_last.Given as goal

abbrev pub invariant-loop-last : goal.invariant-loop-last
invariant-loop-last l = SameEnds last_of (types_view l.fn.types) (inner_view l.current) (inner_view l.fn.inner)

abbrev pub decreases-loop-last : goal.decreases-loop-last
decreases-loop-last l = steps (last_of (inner_view l.current))
