-- Atomic operations on memory.
use Rattle.std.specs.Prelude.{◌≡◌, ◌⊎◌, ℕ, List, Option, Some, None, Bool, true, false, IsSomeAnd, option_and_then, slice_get}
use Rattle.ir_blocks.specs.declared.operations.AtomicFunction.{AtomicFunction}
use Rattle.ir_blocks.specs.declared.operations.AtomicFunction.TheVariants as fun
use Rattle.ir_types.specs.judged.ExpressionPlain.{PlainExpression, plain}
use Rattle.ir_types.specs.declared.expressions.Expression.TheVariants as x
use Rattle.ir_flags.specs.Sets.{Has}
use Rattle.ir_flags.specs.declared.settings.Capabilities.{Capabilities}
use Rattle.ir_flags.specs.declared.settings.TheConstants.Capabilities.{SHADER_FLOAT32_ATOMIC, SHADER_INT64_ATOMIC_MIN_MAX, SHADER_INT64_ATOMIC_ALL_OPS}
use Rattle.ir_kinds.specs.judged.Scalars.{floating, signed, unsigned}
use Rattle.ir_kinds.specs.declared.scalars.Scalar.{Scalar}
use Rattle.ir_types.specs.judged.Plain.{PlainInner, plain as plain_inner, PlainType}
use Rattle.ir_types.specs.declared.types.TypeInner.TheVariants as inner
use Rattle.spec_expressions.specs.TypingForms.{form_of_type, inner_at, Form}
use Rattle.spec_expressions.specs.TypingForms.form as form
use Rattle.typing_layout.specs.judged.Rules.{IsStorageSpace}
use Rattle.spec_statements.specs.judged.ExpressionResults.{IsExchangeOf}
use Rattle.spec_statements.specs.judged.Shapes.{pointed_in}
use Rattle.spec_expressions.specs.judged.Operands.{comparand}
use Rattle.spec_statements.specs.judged.BlockContext.{BlockContext, form_at}
use Rattle.spec_statements.specs.judged.StorageImages.{IsMinOrMax}
use Rattle.spec_statements.specs.judged.Stores.{pointer_space}

-- ---- the pointer

-- the scalar type of an atomic
abbrev pub atomic_of : Option PlainInner → Option Scalar
atomic_of o = elim o [ Some (plain_inner (inner.Atomic s)) ↦ Some s | _ ↦ None ]

-- the scalar of the atomic that a pointer points to
abbrev pub changed_scalar : List PlainType → (pointer : Form) → Option Scalar
changed_scalar types pointer = atomic_of (pointed_in types pointer)

-- ---- which operations are allowed on which scalars

abbrev pub IsInStorage : (pointer : Form) → Type 0
IsInStorage pointer = IsSomeAnd (pointer_space pointer) IsStorageSpace

-- `Min` and `Max` on 64-bit integers in storage, without a result
abbrev pub IsStorageMinMaxWithoutResult : (pointer : Form) → AtomicFunction → (result : Option ℕ) → Type 0
IsStorageMinMaxWithoutResult pointer done result = IsMinOrMax done × IsInStorage pointer × (result ≡ None)

abbrev pub Int64AtomicOK : Capabilities → (pointer : Form) → AtomicFunction → (result : Option ℕ) → Type 0
Int64AtomicOK capabilities pointer done result =
    Has capabilities.0 SHADER_INT64_ATOMIC_ALL_OPS.0 ⊎ (Has capabilities.0 SHADER_INT64_ATOMIC_MIN_MAX.0 × IsStorageMinMaxWithoutResult pointer done result)

-- floats allow addition, subtraction, and exchange without comparison
abbrev pub IsDoneWithFloats : AtomicFunction → Type 0
IsDoneWithFloats fun.Add = Unit {0}
IsDoneWithFloats fun.Subtract = Unit {0}
IsDoneWithFloats (fun.Exchange None) = Unit {0}
IsDoneWithFloats _ = ⊥

pub record Float32AtomicOK (capabilities : Capabilities) (pointer : Form) (done : AtomicFunction) : Type 0 where
  pub capable : Has capabilities.0 SHADER_FLOAT32_ATOMIC.0
  pub done_so : IsDoneWithFloats done
  pub stored : IsInStorage pointer

-- Further requirements of some scalars.
pub record ScalarAllows (capabilities : Capabilities) (s : Scalar) (pointer : Form) (done : AtomicFunction) (result : Option ℕ) : Type 0 where
  pub signed_wide : s ≡ signed 8 → Int64AtomicOK capabilities pointer done result
  pub unsigned_wide : s ≡ unsigned 8 → Int64AtomicOK capabilities pointer done result
  pub float : s ≡ floating 4 → Float32AtomicOK capabilities pointer done

-- ---- the result

-- The result of an atomic operation, as its `AtomicResult` declares it.
pub record AtomicAnswer : Type 0 where
  pub ty : ℕ
  pub comparison : Bool

abbrev pub declared_answer : PlainExpression → Option AtomicAnswer
declared_answer e = elim e [ plain (x.AtomicResult type comparison) ↦ Some (record { ty = type; comparison = comparison }) | _ ↦ None ]

-- the old value, or, with a comparison, a struct of the old value and whether it was exchanged
abbrev pub AtomicAnswerOK : BlockContext → Scalar → (compare : Option ℕ) → AtomicAnswer → Type 0
AtomicAnswerOK c s None answer = (form_of_type c.m.types answer.ty ≡ form.Scalar s) × (answer.comparison ≡ false)
AtomicAnswerOK c s (Some compare) answer =
    (form_at c compare ≡ form.Scalar s) × IsExchangeOf (λ old. old ≡ form.Scalar s) c.m.types (inner_at c.m.types answer.ty) × (answer.comparison ≡ true)

-- the result may be absent: always except for an exchange without a comparison
abbrev pub MayOmitResult : AtomicFunction → Type 0
MayOmitResult fun.Add = Unit {0}
MayOmitResult fun.Subtract = Unit {0}
MayOmitResult fun.And = Unit {0}
MayOmitResult fun.ExclusiveOr = Unit {0}
MayOmitResult fun.InclusiveOr = Unit {0}
MayOmitResult fun.Min = Unit {0}
MayOmitResult fun.Max = Unit {0}
MayOmitResult (fun.Exchange None) = ⊥
MayOmitResult (fun.Exchange (Some compare)) = Unit {0}

abbrev pub AtomicResultOK : BlockContext → Scalar → AtomicFunction → (result : Option ℕ) → Type 0
AtomicResultOK c s done None = MayOmitResult done
AtomicResultOK c s done (Some result) = IsSomeAnd (option_and_then declared_answer (slice_get c.f.expressions result)) (AtomicAnswerOK c s (comparand done))

-- ---- the whole rule

-- The value has the atomic's scalar type.
pub record AtomicChangeOK (c : BlockContext) (pointer : ℕ) (done : AtomicFunction) (value : ℕ) (result : Option ℕ) (s : Scalar) : Type 0 where
  pub fits : form_at c value ≡ form.Scalar s
  pub allowed : ScalarAllows c.capabilities s (form_at c pointer) done result
  pub answered : AtomicResultOK c s done result

abbrev pub AtomicStatementOK : BlockContext → (pointer : ℕ) → AtomicFunction → (value : ℕ) → (result : Option ℕ) → Type 0
AtomicStatementOK c pointer done value result = IsSomeAnd (changed_scalar c.m.types (form_at c pointer)) (AtomicChangeOK c pointer done value result)
