-- The rest of the chain has the same end as the whole chain.
use Rattle.ir_types.specs.judged.Plain.{inner_view}
use Rattle.typing_forms.specs.judged.Resolutions.{types_view}
use Rattle.typing_forms.specs.found.Elements.{base_of}
use Rattle.typing_forms.proofs.Walks.{SameEnds, steps}
use Rattle.typing_forms.proofs.elements.innermost.Given as goal

abbrev pub invariant-loop-base : goal.invariant-loop-base
invariant-loop-base l = SameEnds base_of (types_view l.fn.types) (inner_view l.current) (inner_view l.fn.inner)

abbrev pub decreases-loop-base : goal.decreases-loop-base
decreases-loop-base l = steps (base_of (inner_view l.current))
