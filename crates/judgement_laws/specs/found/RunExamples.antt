-- Small functions whose runs show what a continue skips.
use Rattle.std.specs.Prelude.{[], ◌∷◌, Some, None, true, List}
use Rattle.ir_kinds.specs.declared.operators.UnaryOperator.TheVariants.{LogicalNot}
use Rattle.ir_kinds.specs.declared.values.Literal.TheVariants.{Bool as Truth}
use Rattle.ir_types.specs.judged.ExpressionPlain.{PlainExpression, plain}
use Rattle.ir_types.specs.declared.expressions.Expression.TheVariants as x
use Rattle.ir_blocks.specs.judged.Plain.{emit, if_, loop, continue, call, stop, next}
use Rattle.ir_items.specs.judged.Plain.{PlainFunction}
use Rattle.spec_runs.specs.found.Worked.{of_body}

-- a bool, and its negation twice
abbrev pub truths : List PlainExpression
truths = plain (x.Literal (Truth true)) ∷ plain (x.Unary LogicalNot 0) ∷ plain (x.Unary LogicalNot 0) ∷ []

-- a loop whose body may continue before its last statement; what follows the continue in its own block is
-- unreachable
abbrev pub continuing : PlainFunction
continuing = of_body None truths (next (loop (next (if_ 0 (next continue (next (emit 1 2) stop)) stop) (next (emit 2 3) stop)) stop (Some 2)) stop)

-- a continue continues the inner loop, and skips nothing of the outer loop's body
abbrev pub nested : PlainFunction
nested = of_body None truths (next (loop (next (loop (next continue stop) stop (Some 0)) (next (emit 1 2) stop)) stop (Some 1)) stop)

-- it calls the first function, and the call result is live then
abbrev pub answered : PlainFunction
answered = of_body None (plain (x.CallResult 0) ∷ []) (next (call 0 [] (Some 0)) stop)
