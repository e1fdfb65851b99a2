-- The types before this one are laid out.
use Rattle.typing_forms.specs.judged.Resolutions.{types_view}
use Rattle.typing_layout.proofs.Held.{AreFirst}
use Rattle.typing_layout.proofs.layouter.lay_out.Given as goal

abbrev pub invariant-loop-place : goal.invariant-loop-place
invariant-loop-place l = AreFirst (types_view l.types) l.fn.layouts.items l.layouts.items l.place
