-- What expressions refer to.
use Rattle.std.specs.Prelude.{ℕ, List, Option}
use Rattle.typing_layout.specs.IrTypes.{PlainExpression}
use Rattle.spec_expressions.specs.judged.Kinds.{row_of_expression, expression_slots}
use Rattle.spec_expressions.specs.judged.Operands.{handles_of}
use Rattle.spec_expressions.specs.declared.target.Target.{Target}

-- the operands of an expression, in order
abbrev pub expression_operands : PlainExpression → List ℕ
expression_operands x = handles_of (expression_slots x)

-- the item that an expression refers to, if any
abbrev pub expression_item : PlainExpression → Option Target
expression_item x = (row_of_expression x).item
