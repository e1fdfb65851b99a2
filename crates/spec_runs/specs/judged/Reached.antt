-- An expression and its operands, at any depth.
use Rattle.std.specs.Prelude.{◌≡◌, ◌↔◌, ℕ, zero, suc, List, [], ◌∷◌, Option, Some, None, Contains, slice_get}
use Rattle.std.specs.List.{flat_map}
use Rattle.ir_types.specs.judged.ExpressionPlain.{PlainExpression}
use Rattle.ir_items.specs.judged.Plain.{PlainFunction}
use Rattle.spec_expressions.specs.judged.FunctionHandles.{OperandsPrecede}
use Rattle.spec_expressions.specs.judged.ExpressionNames.{expression_operands}

-- o is the expression e, or one of its operands at any depth
pub data IsReachedFrom (expressions : List PlainExpression) : (e o : ℕ) → Type 0 where
  itself : {e : ℕ} → IsReachedFrom expressions e e
  by_operand : {e o r : ℕ} (x : PlainExpression) → slice_get expressions e ≡ Some x → Contains (expression_operands x) o → IsReachedFrom expressions o r → IsReachedFrom expressions e r

-- ---- the same, computed step by step

-- the operands of an expression, if it exists
abbrev pub operands_at : Option PlainExpression → List ℕ
operands_at (Some expression) = expression_operands expression
operands_at None = []

-- the expression and its operands, at a depth below n
abbrev pub reached_within : ℕ → List PlainExpression → ℕ → List ℕ
reached_within zero expressions e = []
reached_within (suc n) expressions e = e ∷ flat_map (reached_within n expressions) (operands_at (slice_get expressions e))

-- at any depth: each operand precedes the expression that has it
abbrev pub reached_from : PlainFunction → ℕ → List ℕ
reached_from f e = reached_within (suc e) f.expressions e

-- the computed set is exact
abbrev pub AllAreReached : Type 0
AllAreReached = (f : PlainFunction) → OperandsPrecede f.expressions → (e o : ℕ) → Contains (reached_from f e) o ↔ IsReachedFrom f.expressions e o
