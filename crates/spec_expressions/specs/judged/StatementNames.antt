-- What statements refer to. Nested statements have their own references.
use Rattle.std.specs.Prelude.{ℕ, List, Option, option_map}
use Rattle.ir_items.specs.IrBlocks.{PlainStatement}
use Rattle.spec_expressions.specs.judged.Kinds.{Emitted, statement_row, statement_slots}
use Rattle.spec_expressions.specs.judged.Operands.{handles_of}

-- the operands of a statement, in order
abbrev pub statement_operands : PlainStatement → List ℕ
statement_operands s = handles_of (statement_slots s)

-- the result expression of a statement
abbrev pub statement_result : PlainStatement → Option ℕ
statement_result s = (statement_row s).result

-- the range that a statement emits
abbrev pub statement_range : PlainStatement → Option Emitted
statement_range s = (statement_row s).emits

-- the callee of a statement, if it is a call
abbrev pub statement_callee : PlainStatement → Option ℕ
statement_callee s = option_map (λ (c : ℕ × List ℕ). c.0) (statement_row s).calls
