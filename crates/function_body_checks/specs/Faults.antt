-- Errors of the scope of a function's body, by place.
use Rattle.std.specs.Prelude.{◌≡◌, ◌⊎◌, ℕ, List, Option, Some, None, slice_get, []}
use Rattle.typing_errors.specs.declared.expressions.ExpressionError.TheVariants.{NotInScope}
use Rattle.typing_errors.specs.declared.error.FunctionError.{FunctionError}
use Rattle.typing_errors.specs.declared.error.FunctionError.TheVariants as error
use Rattle.typing_errors.specs.declared.atomics.AtomicError.{AtomicError}
use Rattle.typing_errors.specs.declared.atomics.AtomicError.TheVariants as atomic_error
use Rattle.typing_errors.specs.declared.calls.CallError.{CallError}
use Rattle.typing_errors.specs.declared.calls.CallError.TheVariants as call_error
use Rattle.ir_blocks.specs.judged.Places.{Place, OccursAt, spot_at}
use Rattle.ir_blocks.specs.judged.Plain.{call}
use Rattle.ir_types.specs.found.Faults.{error_of, spans_of}
use Rattle.ir_types.specs.declared.refusal.Refusal.{Refusal}
use Rattle.ir_types.specs.declared.refusal.Refusal.TheVariants as refusal
use Rattle.ir_flags.specs.Sets.{Has}
use Rattle.ir_flags.specs.declared.settings.ValidationFlags.{ValidationFlags}
use Rattle.ir_flags.specs.declared.settings.TheConstants.ValidationFlags.{EXPRESSIONS}
use Rattle.ir_items.specs.judged.Plain.{PlainFunction}
use Rattle.function_body_checks.specs.Carried.{callee_at}
use Rattle.spec_statements.specs.judged.Results.{AnswersBy}
use Rattle.spec_statements.specs.judged.Scope.{InScope, Checks, Introduces}

-- the statement at the place is not a call
abbrev pub NoCallAt : PlainFunction → Place → Type 0
NoCallAt f p = callee_at (spot_at p f.body) ≡ None

-- an expression is used out of scope, by a statement other than a call
pub record IsUsedEarly (f : PlainFunction) (place : Place) (e : ℕ) : Type 0 where
  pub other : NoCallAt f place
  pub used : Checks f.body place e
  pub unknown : ¬ InScope f place e

-- an expression in scope is introduced again, by a statement other than a call
pub record IsBroughtAgain (f : PlainFunction) (place : Place) (e : ℕ) : Type 0 where
  pub other : NoCallAt f place
  pub brought : Introduces f.body place e
  pub known : InScope f place e

-- results are not required, or another statement has this result
abbrev pub IsPopulated : ValidationFlags → PlainFunction → Place → ℕ → Type 0
IsPopulated flags f p e = (Has flags.0 EXPRESSIONS.0 → ⊥) ⊎ ((q : Place) × AnswersBy f.body q e × (q ≡ p → ⊥))

abbrev pub IsCallErrorAt : ValidationFlags → PlainFunction → Place → (arguments : List ℕ) → (answer : Option ℕ) → CallError → Type 0
IsCallErrorAt flags f p arguments answer (call_error.Argument place source) =
    (source ≡ NotInScope) × ((e : ℕ) × (slice_get arguments place ≡ Some e) × (InScope f p e → ⊥))
IsCallErrorAt flags f p arguments answer (call_error.ResultAlreadyInScope e) = (answer ≡ Some e) × InScope f p e
IsCallErrorAt flags f p arguments answer (call_error.ResultAlreadyPopulated e) = (answer ≡ Some e) × IsPopulated flags f p e
IsCallErrorAt flags f p arguments answer _ = ⊥

pub record IsBadCall (flags : ValidationFlags) (f : PlainFunction) (place : Place) (function : ℕ) (e : CallError) : Type 0 where
  pub arguments : List ℕ
  pub answer : Option ℕ
  pub stands : OccursAt f.body place (call function arguments answer)
  pub wrong : IsCallErrorAt flags f place arguments answer e

-- the result of an atomic operation is already a result
pub record IsBadAtomic (flags : ValidationFlags) (f : PlainFunction) (place : Place) (e : ℕ) : Type 0 where
  pub other : NoCallAt f place
  pub answers : AnswersBy f.body place e
  pub again : IsPopulated flags f place e

abbrev pub IsAtomicErrorIn : ValidationFlags → PlainFunction → Place → AtomicError → Type 0
IsAtomicErrorIn flags f p (atomic_error.ResultAlreadyPopulated e) = IsBadAtomic flags f p e
IsAtomicErrorIn flags f p _ = ⊥

-- the error occurs at this place
abbrev pub IsScopeFaultAt : ValidationFlags → PlainFunction → FunctionError → Place → Type 0
IsScopeFaultAt flags f (error.Expression e source) p = (source ≡ NotInScope) × IsUsedEarly f p e
IsScopeFaultAt flags f (error.ExpressionAlreadyInScope e) p = IsBroughtAgain f p e
IsScopeFaultAt flags f (error.InvalidCall function e) p = IsBadCall flags f p function e
IsScopeFaultAt flags f (error.InvalidAtomic e) p = IsAtomicErrorIn flags f p e
IsScopeFaultAt flags f _ p = ⊥

-- at some place
abbrev pub IsScopeFault : ValidationFlags → PlainFunction → FunctionError → Type 0
IsScopeFault flags f e = (p : Place) × IsScopeFaultAt flags f e p

-- a refusal has such an error of the place, or is out of memory
abbrev pub IsScopeRefusalAt : ValidationFlags → PlainFunction → Refusal FunctionError → Place → Type 0
IsScopeRefusalAt flags f (refusal.Memory e) p = Unit {0}
IsScopeRefusalAt flags f (refusal.Fault e) p = IsScopeFaultAt flags f (error_of e) p × (spans_of e ≡ [])
