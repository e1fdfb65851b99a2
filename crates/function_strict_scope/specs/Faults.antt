-- Errors of the strict scope of a function's body, by place.
use Rattle.std.specs.Prelude.{◌≡◌, ◌⊎◌, ◌<◌, ◌≤◌, ℕ, List, Option, Some, Contains, slice_get, []}
use Rattle.function_body_checks.specs.Faults.{NoCallAt}
use Rattle.typing_errors.specs.declared.expressions.ExpressionError.TheVariants.{NotInScope}
use Rattle.typing_errors.specs.declared.error.FunctionError.{FunctionError}
use Rattle.typing_errors.specs.declared.error.FunctionError.TheVariants as error
use Rattle.typing_errors.specs.declared.calls.CallError.{CallError}
use Rattle.typing_errors.specs.declared.calls.CallError.TheVariants as call_error
use Rattle.ir_blocks.specs.judged.Places.{Place, OccursAt}
use Rattle.ir_blocks.specs.judged.Plain.{emit, operation, call, ray_query, ballot}
use Rattle.ir_blocks.specs.declared.operations.RayQueryFunction.TheVariants.{Proceed}
use Rattle.ir_types.specs.found.Faults.{error_of, spans_of}
use Rattle.ir_types.specs.declared.refusal.Refusal.{Refusal}
use Rattle.ir_types.specs.declared.refusal.Refusal.TheVariants as refusal
use Rattle.ir_types.specs.judged.ExpressionPlain.{PlainExpression, plain}
use Rattle.ir_types.specs.declared.expressions.Expression.TheVariants.{RayQueryProceedResult, SubgroupBallotResult}
use Rattle.ir_items.specs.judged.Plain.{PlainFunction}
use Rattle.spec_expressions.specs.judged.ExpressionNames.{expression_operands}
use Rattle.spec_statements.specs.judged.Strict.{InStrictScope, Needs}

-- an operand is used out of strict scope, by a statement other than a call
pub record IsUsedUnsurely (f : PlainFunction) (place : Place) (o : ℕ) : Type 0 where
  pub other : NoCallAt f place
  pub used : Needs f.body place o
  pub unknown : ¬ InStrictScope f place o

-- an expression is emitted whose operand is neither before it in its range nor in strict scope
pub record IsOperandOfEmitted (f : PlainFunction) (place : Place) (o : ℕ) : Type 0 where
  pub first : ℕ
  pub end : ℕ
  pub stands : OccursAt f.body place (emit first end)
  pub expression : ℕ
  pub from : first ≤ expression
  pub below : expression < end
  pub form : PlainExpression
  pub is : slice_get f.expressions expression ≡ Some form
  pub operand : Contains (expression_operands form) o
  pub later : ¬ ((first ≤ o) × (o < expression))
  pub unknown : ¬ InStrictScope f place o

-- an argument of a call is out of strict scope
pub record IsPassedUnsurely (f : PlainFunction) (place : Place) (function place_of_argument : ℕ) : Type 0 where
  pub arguments : List ℕ
  pub answer : Option ℕ
  pub stands : OccursAt f.body place (call function arguments answer)
  pub passed : ℕ
  pub is : slice_get arguments place_of_argument ≡ Some passed
  pub unknown : ¬ InStrictScope f place passed

-- the result of a `Proceed` or a ballot has another kind
pub data IsOfOtherKind (f : PlainFunction) (p : Place) (e : ℕ) : Type 0 where
  of_proceed : (query : ℕ) → OccursAt f.body p (operation (ray_query query (Proceed e))) → ¬ (slice_get f.expressions e ≡ Some (plain RayQueryProceedResult)) → IsOfOtherKind f p e
  of_ballot : (predicate : Option ℕ) → OccursAt f.body p (operation (ballot e predicate)) → ¬ (slice_get f.expressions e ≡ Some (plain SubgroupBallotResult)) → IsOfOtherKind f p e

abbrev pub IsStrictCallError : PlainFunction → Place → (function : ℕ) → CallError → Type 0
IsStrictCallError f p function (call_error.Argument place source) = (source ≡ NotInScope) × IsPassedUnsurely f p function place
IsStrictCallError f p function _ = ⊥

-- the error occurs at this place
abbrev pub IsStrictFaultAt : PlainFunction → FunctionError → Place → Type 0
IsStrictFaultAt f (error.Expression o source) p = (source ≡ NotInScope) × (IsUsedUnsurely f p o ⊎ IsOperandOfEmitted f p o)
IsStrictFaultAt f (error.InvalidCall function e) p = IsStrictCallError f p function e
IsStrictFaultAt f (error.StrictResultMismatch e) p = IsOfOtherKind f p e
IsStrictFaultAt f _ p = ⊥

-- at some place
abbrev pub IsStrictFault : PlainFunction → FunctionError → Type 0
IsStrictFault f e = (p : Place) × IsStrictFaultAt f e p

-- a refusal has such an error of the place, or is out of memory
abbrev pub IsStrictRefusalAt : PlainFunction → Refusal FunctionError → Place → Type 0
IsStrictRefusalAt f (refusal.Memory e) p = Unit {0}
IsStrictRefusalAt f (refusal.Fault e) p = IsStrictFaultAt f (error_of e) p × (spans_of e ≡ [])
