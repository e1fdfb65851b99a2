-- Whether result expressions belong to statements.
use Rattle.std.specs.Prelude.{◌≡◌, ◌<◌, ℕ, List, Some, Bool, true, slice_get}
use Rattle.typing_errors.specs.declared.error.FunctionError.{FunctionError}
use Rattle.typing_errors.specs.declared.error.FunctionError.TheVariants as error
use Rattle.ir_types.specs.judged.ExpressionPlain.{PlainExpression, plain}
use Rattle.ir_types.specs.declared.expressions.Expression.TheVariants as x
use Rattle.spec_statements.specs.judged.Results.{DenotesResult}

-- an expression is the result of a call or an atomic operation
abbrev pub Stands : PlainExpression → Type 0
Stands (plain (x.CallResult function)) = Unit {0}
Stands (plain (x.AtomicResult type comparison)) = Unit {0}
Stands _ = ⊥

-- a result expression belongs to a statement
abbrev pub IsAnswered : List PlainExpression → List Bool → ℕ → Type 0
IsAnswered expressions answered e = DenotesResult expressions e → slice_get answered e ≡ Some true

-- so does each
abbrev pub AllAnswered : List PlainExpression → List Bool → Type 0
AllAnswered expressions answered = (e : ℕ) → IsAnswered expressions answered e

pub record AnsweredBelow (expressions : List PlainExpression) (answered : List Bool) (end : ℕ) : Type 0 where
  pub each : (e : ℕ) → e < end → IsAnswered expressions answered e

-- a result expression does not, and all before it do
pub record IsUnanswered (expressions : List PlainExpression) (answered : List Bool) (e : ℕ) : Type 0 where
  pub stands : DenotesResult expressions e
  pub unanswered : ¬ (slice_get answered e ≡ Some true)
  pub before : AnsweredBelow expressions answered e

abbrev pub IsUnansweredFault : List PlainExpression → List Bool → FunctionError → Type 0
IsUnansweredFault expressions answered (error.UnvisitedExpression e) = IsUnanswered expressions answered e
IsUnansweredFault expressions answered _ = ⊥
