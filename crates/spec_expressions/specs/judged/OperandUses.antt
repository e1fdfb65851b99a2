-- The operands of expressions and statements, each with its use of a global variable.
use Rattle.std.specs.Prelude.{ℕ, List, map, filter_map, option_map, bit_or}
use Rattle.typing_layout.specs.IrTypes.{PlainExpression}
use Rattle.ir_items.specs.IrBlocks.{PlainStatement}
use Rattle.spec_expressions.specs.judged.Operands.{Operands, these, each_of}
use Rattle.spec_expressions.specs.judged.Kinds.{expression_slots, statement_slots}
use Rattle.spec_expressions.specs.declared.operand.Slot.{Slot}
use Rattle.spec_expressions.specs.declared.operand.Usage.{Usage}
use Rattle.spec_expressions.specs.declared.operand.Usage.TheVariants.{Base, Read, Write, ReadWrite, Query, Atomic}
use Rattle.spec_expressions.specs.declared.global_use.TheConstants.GlobalUse.{READ, WRITE, QUERY, ATOMIC}

-- An operand expression, and the bits of its use of the global variable at the root of its access
-- chain, if there is one.
pub record Operand : Type 0 where
  pub handle : ℕ
  pub use_bits : ℕ

-- the bits of a use; the base of an access has none, since the uses of the access count
abbrev pub bits_of : Usage → ℕ
bits_of Base = 0
bits_of Read = READ.0
bits_of Write = WRITE.0
bits_of ReadWrite = bit_or READ.0 WRITE.0
bits_of Query = QUERY.0
bits_of Atomic = ATOMIC.0

abbrev pub operand : Usage → ℕ → Operand
operand usage h = record { handle = h; use_bits = bits_of usage }

-- the optional operands that are present
abbrev pub operands_in : Operands → List Operand
operands_in (these slots) = filter_map (λ (slot : Slot). option_map (operand slot.usage) slot.handle) slots
operands_in (each_of when handles) = map (operand Read) handles

abbrev pub expression_uses : PlainExpression → List Operand
expression_uses x = operands_in (expression_slots x)

-- The operands of the statement itself, without its nested statements.
abbrev pub statement_uses : PlainStatement → List Operand
statement_uses s = operands_in (statement_slots s)
