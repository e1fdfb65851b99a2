-- The entries are those of the types visited so far.
use Rattle.typing_forms.specs.judged.Resolutions.{types_view}
use Rattle.typing_forms.specs.found.Constructible.{AreFoundBelow}
use Rattle.typing_forms.proofs.constructible.constructible_types.Given as goal

abbrev pub invariant-loop-place : goal.invariant-loop-place
invariant-loop-place l = AreFoundBelow (types_view l.types) l.known.items l.place
