-- The kinds of the expressions before this one are computed.
use Rattle.std.proofs.Common.{map}
use Rattle.typing_forms.specs.IrArena.{value_of_entry}
use Rattle.typing_forms.specs.IrTypes.{expression_view}
use Rattle.typing_layout.proofs.Latest.{AreFirstKinds}
use Rattle.typing_layout.proofs.tracker.kinds_of.Given as goal

abbrev pub invariant-loop-place : goal.invariant-loop-place
invariant-loop-place l = AreFirstKinds (map expression_view (map value_of_entry l.arena)) l.kinds.items l.place
