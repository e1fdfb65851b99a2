-- Laws of the types of expressions.
use Rattle.std.specs.Prelude.{◌≡◌, ℕ, List, Some, Err, slice_get}
use Rattle.typing_layout.specs.IrTypes.{PlainExpression}
use Rattle.typing_layout.specs.TypingForms.{Form, form_of, PlainResolution, AreEquivalent}
use Rattle.typing_rules.specs.judged.Laws.{IsAmong}
use Rattle.spec_expressions.specs.judged.Context.{Context}
use Rattle.spec_expressions.specs.judged.Typing.{typing_operands, rule_at, HasTypeAmong}
use Rattle.spec_expressions.specs.declared.faults.TypingFault.{TypingFault}

-- an expression has at most one type
abbrev pub OneType : Type 0
OneType = (context : Context) (expressions : List PlainExpression) (place : ℕ) (s t : Form)
    → HasTypeAmong context expressions place s → HasTypeAmong context expressions place t → s ≡ t

-- An expression has a fault: its operands have types, for which the rule of its kind gives an error.
pub record IsFaulty (context : Context) (expressions : List PlainExpression) (place : ℕ) (fault : TypingFault) : Type 0 where
  pub expression : PlainExpression
  pub past : ℕ → Form
  pub stands : slice_get expressions place ≡ Some expression
  pub operands : (operand : ℕ) → IsAmong operand (typing_operands expression) → HasTypeAmong context expressions operand (past operand)
  pub refused : rule_at context expression past ≡ Err fault

-- an expression with a fault has no type
abbrev pub FaultyHasNone : Type 0
FaultyHasNone = (context : Context) (expressions : List PlainExpression) (place : ℕ) (fault : TypingFault)
    → IsFaulty context expressions place fault → (t : Form) → HasTypeAmong context expressions place t → ⊥

-- operands of the same forms give the same form, or the same fault
abbrev pub OperandsDecide : Type 0
OperandsDecide = (context : Context) (expression : PlainExpression) (p q : ℕ → Form)
    → ((operand : ℕ) → IsAmong operand (typing_operands expression) → p operand ≡ q operand)
    → rule_at context expression p ≡ rule_at context expression q

-- for every kind of expression, operands of equivalent types give equivalent types, or the same fault
abbrev pub EquivalentOperandsDecide : Type 0
EquivalentOperandsDecide = (context : Context) (expression : PlainExpression) (p q : ℕ → PlainResolution)
    → ((operand : ℕ) → IsAmong operand (typing_operands expression) → AreEquivalent context.types (p operand) (q operand))
    → rule_at context expression (λ operand. form_of context.types (p operand))
    ≡ rule_at context expression (λ operand. form_of context.types (q operand))
