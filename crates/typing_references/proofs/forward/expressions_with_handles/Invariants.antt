use Rattle.std.proofs.Common.{◌≡◌}
use Rattle.ir_arena.specs.judged.Handles.{handles_from}
use Rattle.ir_types.specs.judged.ExpressionPlain.{expression_view}
use Rattle.typing_references.specs.Faults.{expression_forward}
use Rattle.typing_references.specs.First.{first_of}
use Rattle.typing_references.proofs.forward.expressions_with_handles.Given as goal

-- the first match of the rest is the first of all
abbrev pub invariant-loop-expression : goal.invariant-loop-expression
invariant-loop-expression l =
    first_of (λ h. expression_forward l.caller (expression_view h.1)) l.expression-iterator ≡ first_of (λ h. expression_forward l.caller (expression_view h.1)) (handles_from 0 l.expressions)
