-- Errors of atomic operations.
use Rattle.std.specs.Prelude.{◌≡◌, ◌⊎◌, ℕ, Option, Some, None, true, false, IsSomeAnd, option_and_then, slice_get}
use Rattle.typing_errors.specs.declared.error.FunctionError.{FunctionError}
use Rattle.typing_errors.specs.declared.error.FunctionError.TheVariants as error
use Rattle.typing_errors.specs.declared.atomics.AtomicError.{AtomicError}
use Rattle.typing_errors.specs.declared.atomics.AtomicError.TheVariants as fault
use Rattle.ir_blocks.specs.declared.operations.AtomicFunction.{AtomicFunction}
use Rattle.ir_flags.specs.Sets.{Has}
use Rattle.ir_flags.specs.declared.settings.Capabilities.{Capabilities}
use Rattle.ir_flags.specs.declared.settings.TheConstants.Capabilities.{SHADER_FLOAT32_ATOMIC, SHADER_INT64_ATOMIC_MIN_MAX, SHADER_INT64_ATOMIC_ALL_OPS}
use Rattle.ir_kinds.specs.judged.Scalars.{floating, signed, unsigned}
use Rattle.ir_kinds.specs.declared.scalars.Scalar.{Scalar}
use Rattle.spec_statements.specs.judged.ExpressionResults.{IsExchangeOf}
use Rattle.spec_expressions.specs.judged.Operands.{comparand}
use Rattle.spec_statements.specs.judged.Atomics.{changed_scalar, IsInStorage, IsStorageMinMaxWithoutResult, IsDoneWithFloats, AtomicAnswer, declared_answer, MayOmitResult}
use Rattle.spec_statements.specs.judged.BlockContext.{BlockContext, form_at}
use Rattle.spec_statements.specs.judged.Stores.{pointer_space}
use Rattle.typing_forms.specs.judged.Forms.{form_of_type}
use Rattle.typing_forms.specs.judged.Resolutions.{inner_at}
use Rattle.typing_forms.specs.declared.form.Form.{Form}
use Rattle.typing_forms.specs.declared.form.Form.TheVariants as form

-- ---- operations by scalar

abbrev pub IsWide : Scalar → Type 0
IsWide s = (s ≡ signed 8) ⊎ (s ≡ unsigned 8)

-- minimum and maximum without a result in `Storage` require less than all others
abbrev pub IsMissingWide : Capabilities → (pointer : Form) → AtomicFunction → (result : Option ℕ) → (missing : Capabilities) → Type 0
IsMissingWide capabilities pointer done result missing =
    (¬ Has capabilities.0 SHADER_INT64_ATOMIC_ALL_OPS.0)
    × (((missing ≡ SHADER_INT64_ATOMIC_ALL_OPS) × ¬ IsStorageMinMaxWithoutResult pointer done result)
    ⊎ ((missing ≡ SHADER_INT64_ATOMIC_MIN_MAX) × IsStorageMinMaxWithoutResult pointer done result × ¬ Has capabilities.0 SHADER_INT64_ATOMIC_MIN_MAX.0))

abbrev pub IsWideFault : Capabilities → (pointer : Form) → AtomicFunction → (result : Option ℕ) → AtomicError → Type 0
IsWideFault capabilities pointer done result (fault.MissingCapability missing) = IsMissingWide capabilities pointer done result missing
IsWideFault capabilities pointer done result _ = ⊥

abbrev pub IsFloatFault : Capabilities → (pointer : Form) → AtomicFunction → AtomicError → Type 0
IsFloatFault capabilities pointer done (fault.MissingCapability missing) = (missing ≡ SHADER_FLOAT32_ATOMIC) × ¬ Has capabilities.0 SHADER_FLOAT32_ATOMIC.0
IsFloatFault capabilities pointer done (fault.InvalidOperator fun) = (fun ≡ done) × ¬ IsDoneWithFloats done
IsFloatFault capabilities pointer done (fault.InvalidAddressSpace space) = (pointer_space pointer ≡ Some space) × ¬ IsInStorage pointer
IsFloatFault capabilities pointer done _ = ⊥

abbrev pub IsScalarFault : Capabilities → Scalar → (pointer : Form) → AtomicFunction → (result : Option ℕ) → AtomicError → Type 0
IsScalarFault capabilities s pointer done result e =
    (IsWide s × IsWideFault capabilities pointer done result e) ⊎ ((s ≡ floating 4) × IsFloatFault capabilities pointer done e)

-- ---- the result

abbrev pub IsPlainFault : BlockContext → Scalar → (result : ℕ) → AtomicAnswer → AtomicError → Type 0
IsPlainFault c s result answer (fault.ResultTypeMismatch e) = (e ≡ result) × ¬ (form_of_type c.m.types answer.ty ≡ form.Scalar s)
IsPlainFault c s result answer (fault.ResultExpressionExchange e) = (e ≡ result) × (answer.comparison ≡ true)
IsPlainFault c s result answer _ = ⊥

abbrev pub IsExchangeFault : BlockContext → Scalar → (compare result : ℕ) → AtomicAnswer → AtomicError → Type 0
IsExchangeFault c s compare result answer (fault.InvalidOperand e) = (e ≡ compare) × ¬ (form_at c compare ≡ form.Scalar s)
IsExchangeFault c s compare result answer (fault.ResultTypeMismatch e) =
    (e ≡ result) × ¬ IsExchangeOf (λ old. old ≡ form.Scalar s) c.m.types (inner_at c.m.types answer.ty)
IsExchangeFault c s compare result answer (fault.ResultExpressionNotExchange e) = (e ≡ result) × (answer.comparison ≡ false)
IsExchangeFault c s compare result answer _ = ⊥

abbrev pub IsDeclaredFault : BlockContext → Scalar → (compare : Option ℕ) → (result : ℕ) → AtomicAnswer → AtomicError → Type 0
IsDeclaredFault c s None result answer e = IsPlainFault c s result answer e
IsDeclaredFault c s (Some compare) result answer e = IsExchangeFault c s compare result answer e

-- it is not an `AtomicResult`
abbrev pub IsOtherFault : BlockContext → (result : ℕ) → AtomicError → Type 0
IsOtherFault c result (fault.InvalidResultExpression e) = (e ≡ result) × (option_and_then declared_answer (slice_get c.f.expressions result) ≡ None)
IsOtherFault c result _ = ⊥

abbrev pub IsUnansweredFault : AtomicFunction → AtomicError → Type 0
IsUnansweredFault done fault.MissingReturnValue = ¬ MayOmitResult done
IsUnansweredFault done _ = ⊥

abbrev pub IsAnswerFault : BlockContext → Scalar → AtomicFunction → (result : Option ℕ) → AtomicError → Type 0
IsAnswerFault c s done None e = IsUnansweredFault done e
IsAnswerFault c s done (Some result) e = IsOtherFault c result e
    ⊎ IsSomeAnd (option_and_then declared_answer (slice_get c.f.expressions result)) (λ answer. IsDeclaredFault c s (comparand done) result answer e)

-- ---- the rule

abbrev pub IsValueFault : BlockContext → (value : ℕ) → Scalar → AtomicError → Type 0
IsValueFault c value s (fault.InvalidOperand e) = (e ≡ value) × ¬ (form_at c value ≡ form.Scalar s)
IsValueFault c value s _ = ⊥

abbrev pub IsChangeFault : BlockContext → (pointer : ℕ) → AtomicFunction → (value : ℕ) → (result : Option ℕ) → Scalar → AtomicError → Type 0
IsChangeFault c pointer done value result s e =
    IsValueFault c value s e ⊎ (IsScalarFault c.capabilities s (form_at c pointer) done result e ⊎ IsAnswerFault c s done result e)

abbrev pub IsPointerFault : BlockContext → (pointer : ℕ) → AtomicError → Type 0
IsPointerFault c pointer (fault.InvalidPointer e) = (e ≡ pointer) × (changed_scalar c.m.types (form_at c pointer) ≡ None)
IsPointerFault c pointer _ = ⊥

abbrev pub IsAtomicError : BlockContext → (pointer : ℕ) → AtomicFunction → (value : ℕ) → (result : Option ℕ) → AtomicError → Type 0
IsAtomicError c pointer done value result e = IsPointerFault c pointer e
    ⊎ IsSomeAnd (changed_scalar c.m.types (form_at c pointer)) (λ s. IsChangeFault c pointer done value result s e)

abbrev pub IsAtomicFault : BlockContext → (pointer : ℕ) → AtomicFunction → (value : ℕ) → (result : Option ℕ) → FunctionError → Type 0
IsAtomicFault c pointer done value result (error.InvalidAtomic e) = IsAtomicError c pointer done value result e
IsAtomicFault c pointer done value result _ = ⊥
