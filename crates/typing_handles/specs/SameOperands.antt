-- The operands of an expression are the same, with and without their uses.
use Rattle.std.specs.Prelude.{◌≡◌, ◌↔◌, ℕ, List, map}
use Rattle.ir_types.specs.judged.ExpressionPlain.{PlainExpression}
use Rattle.spec_expressions.specs.judged.OperandUses.{Operand, expression_uses}
use Rattle.spec_expressions.specs.judged.Values.{UsesPrecede}
use Rattle.spec_expressions.specs.judged.FunctionHandles.{OperandsPrecede}
use Rattle.spec_expressions.specs.judged.ExpressionNames.{expression_operands}

abbrev pub handles_of : List Operand → List ℕ
handles_of operands = map (λ (o : Operand). o.handle) operands

-- the handles of the operands with uses are the operands
abbrev pub SameOperands : Type 0
SameOperands = (x : PlainExpression) → handles_of (expression_uses x) ≡ expression_operands x

-- so the operands precede in the one sense exactly if they do in the other
abbrev pub SameOrder : Type 0
SameOrder = (expressions : List PlainExpression) → OperandsPrecede expressions ↔ UsesPrecede expressions
