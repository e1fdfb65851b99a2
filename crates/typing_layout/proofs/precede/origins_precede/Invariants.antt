-- The operands that determine the kinds of the expressions visited so far precede.
use Rattle.std.proofs.Common.{map}
use Rattle.typing_forms.specs.IrArena.{value_of_entry}
use Rattle.typing_forms.specs.IrTypes.{expression_view}
use Rattle.typing_layout.proofs.Precedence.{PrecedeBelow}
use Rattle.typing_layout.proofs.precede.origins_precede.Given as goal

abbrev pub invariant-loop-place : goal.invariant-loop-place
invariant-loop-place l = PrecedeBelow (map expression_view (map value_of_entry l.arena)) l.place
