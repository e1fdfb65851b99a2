-- The bases of accesses are operands.
use Rattle.std.proofs.Common.{◌≡◌, ◌<◌, ℕ, List, [], ◌∷◌, Some, All, subst}
use Rattle.std.proofs.lemmas.List.Elements.{All-head}
use Rattle.ir_types.specs.judged.ExpressionPlain.{PlainExpression, plain}
use Rattle.ir_types.specs.declared.expressions.Expression.TheVariants as x
use Rattle.ir_items.specs.judged.Bases.{base_of, BasesPrecede}
use Rattle.spec_expressions.specs.judged.FunctionHandles.{OperandsPrecede}
use Rattle.spec_expressions.specs.judged.ExpressionNames.{expression_operands}

base_below : (handle base : ℕ) (e : PlainExpression) → base_of e ≡ Some base → All (λ operand. operand < handle) (expression_operands e) → base < handle
base_below handle base (plain (x.Access b index)) is all = subst (λ y. y < handle) (let h = is in cc) (All-head (λ (operand : ℕ). operand < handle) b (index ∷ []) all)
base_below handle base (plain (x.AccessIndex b index)) is all = subst (λ y. y < handle) (let h = is in cc) (All-head (λ (operand : ℕ). operand < handle) b [] all)
base_below handle base _ is all = absurd (let h = is in cc)

pub bases_precede : (xs : List PlainExpression) → OperandsPrecede xs → BasesPrecede xs
bases_precede xs precede handle base e at is = base_below handle base e is (precede handle e at)
