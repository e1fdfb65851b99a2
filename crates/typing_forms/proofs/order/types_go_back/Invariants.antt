-- The types visited so far refer only to earlier types.
use Rattle.typing_forms.proofs.Orders.{GoBackBelow}
use Rattle.typing_forms.specs.judged.Resolutions.{types_view}
use Rattle.typing_forms.proofs.order.types_go_back.Given as goal

abbrev pub invariant-loop-place : goal.invariant-loop-place
invariant-loop-place l = GoBackBelow (types_view l.types) l.place
