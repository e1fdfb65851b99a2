-- What changes values atomically, or loads them together, with a fault does not meet its rule.
use Rattle.std.proofs.Common.{ℕ, Option, Some, None, true≢false, inl, inr, slice_get, sym, ◌∙◌}
use Rattle.std.specs.Prelude.{option_and_then}
use Rattle.function_atomic_checks.specs.Atomics.{IsWide, IsMissingWide, IsWideFault, IsFloatFault, IsScalarFault, IsPlainFault, IsExchangeFault, IsDeclaredFault, IsOtherFault, IsUnansweredFault, IsAnswerFault, IsValueFault, IsChangeFault, IsPointerFault, IsAtomicError, IsAtomicFault}
use Rattle.function_atomic_checks.specs.Laws.{FaultsRefute}
use Rattle.function_atomic_checks.specs.UniformLoads.{loaded_at, IsUniformLoadFault}
use Rattle.function_atomic_checks.proofs.Present.{missing, both}
use Rattle.function_atomic_checks.proofs.Texels.{store_refuted, change_refuted}
use Rattle.typing_errors.specs.declared.error.FunctionError.{FunctionError}
use Rattle.typing_errors.specs.declared.error.FunctionError.TheVariants as error
use Rattle.typing_errors.specs.declared.atomics.AtomicError.{AtomicError}
use Rattle.typing_errors.specs.declared.atomics.AtomicError.TheVariants as fault
use Rattle.ir_blocks.specs.declared.operations.AtomicFunction.{AtomicFunction}
use Rattle.ir_flags.specs.declared.settings.Capabilities.{Capabilities}
use Rattle.ir_kinds.specs.declared.scalars.Scalar.{Scalar}
use Rattle.spec_expressions.specs.judged.Operands.{comparand}
use Rattle.spec_statements.specs.judged.Atomics.{changed_scalar, Int64AtomicOK, Float32AtomicOK, ScalarAllows, AtomicAnswer, declared_answer, AtomicAnswerOK, AtomicResultOK, AtomicChangeOK, AtomicStatementOK}
use Rattle.spec_statements.specs.judged.BlockContext.{BlockContext, form_at}
use Rattle.spec_statements.specs.judged.UniformLoads.{UniformLoadStatementOK}
use Rattle.typing_forms.specs.declared.form.Form.{Form}

-- ---- which scalars are changed how

missing_refuted : (k : Capabilities) (pointer : Form) (done : AtomicFunction) (result : Option ℕ) (lacks : Capabilities)
    → IsMissingWide k pointer done result lacks → Int64AtomicOK k pointer done result → ⊥
missing_refuted k pointer done result lacks wrong (inl all) = wrong.0 all
missing_refuted k pointer done result lacks (none, inl wrong) (inr some) = wrong.1 some.1
missing_refuted k pointer done result lacks (none, inr wrong) (inr some) = wrong.2 some.0

wide_refuted : (k : Capabilities) (pointer : Form) (done : AtomicFunction) (result : Option ℕ) (e : AtomicError) → IsWideFault k pointer done result e → Int64AtomicOK k pointer done result → ⊥
wide_refuted k pointer done result (fault.MissingCapability lacks) wrong ok = missing_refuted k pointer done result lacks wrong ok
wide_refuted k pointer done result _ wrong ok = wrong

float_refuted : (k : Capabilities) (pointer : Form) (done : AtomicFunction) (e : AtomicError) → IsFloatFault k pointer done e → Float32AtomicOK k pointer done → ⊥
float_refuted k pointer done (fault.MissingCapability lacks) wrong ok = wrong.1 ok.capable
float_refuted k pointer done (fault.InvalidOperator fun) wrong ok = wrong.1 ok.done_so
float_refuted k pointer done (fault.InvalidAddressSpace space) wrong ok = wrong.1 ok.stored
float_refuted k pointer done _ wrong ok = wrong

-- what is required of an integer of eight bytes
wide_asked : (k : Capabilities) (s : Scalar) (pointer : Form) (done : AtomicFunction) (result : Option ℕ) → IsWide s → ScalarAllows k s pointer done result → Int64AtomicOK k pointer done result
wide_asked k s pointer done result (inl is) ok = ok.signed_wide is
wide_asked k s pointer done result (inr is) ok = ok.unsigned_wide is

scalar_refuted : (k : Capabilities) (s : Scalar) (pointer : Form) (done : AtomicFunction) (result : Option ℕ) (e : AtomicError)
    → IsScalarFault k s pointer done result e → ScalarAllows k s pointer done result → ⊥
scalar_refuted k s pointer done result e (inl wrong) ok = wide_refuted k pointer done result e wrong.1 (wide_asked k s pointer done result wrong.0 ok)
scalar_refuted k s pointer done result e (inr wrong) ok = float_refuted k pointer done e wrong.1 (ok.float wrong.0)

-- ---- what is answered

plain_refuted : (c : BlockContext) (s : Scalar) (result : ℕ) (answer : AtomicAnswer) (e : AtomicError) → IsPlainFault c s result answer e → AtomicAnswerOK c s None answer → ⊥
plain_refuted c s result answer (fault.ResultTypeMismatch x) wrong ok = wrong.1 ok.0
plain_refuted c s result answer (fault.ResultExpressionExchange x) wrong ok = true≢false (sym wrong.1 ∙ ok.1)
plain_refuted c s result answer _ wrong ok = wrong

exchange_refuted : (c : BlockContext) (s : Scalar) (compare result : ℕ) (answer : AtomicAnswer) (e : AtomicError)
    → IsExchangeFault c s compare result answer e → AtomicAnswerOK c s (Some compare) answer → ⊥
exchange_refuted c s compare result answer (fault.InvalidOperand x) wrong ok = wrong.1 ok.0
exchange_refuted c s compare result answer (fault.ResultTypeMismatch x) wrong ok = wrong.1 ok.1
exchange_refuted c s compare result answer (fault.ResultExpressionNotExchange x) wrong ok = true≢false (sym ok.2 ∙ wrong.1)
exchange_refuted c s compare result answer _ wrong ok = wrong

declared_refuted : (c : BlockContext) (s : Scalar) (compare : Option ℕ) (result : ℕ) (e : AtomicError) (answer : AtomicAnswer)
    → IsDeclaredFault c s compare result answer e → AtomicAnswerOK c s compare answer → ⊥
declared_refuted c s None result e answer wrong ok = plain_refuted c s result answer e wrong ok
declared_refuted c s (Some compare) result e answer wrong ok = exchange_refuted c s compare result answer e wrong ok

other_refuted : (c : BlockContext) (s : Scalar) (done : AtomicFunction) (result : ℕ) (e : AtomicError) → IsOtherFault c result e → AtomicResultOK c s done (Some result) → ⊥
other_refuted c s done result (fault.InvalidResultExpression x) wrong ok = missing (option_and_then declared_answer (slice_get c.f.expressions result)) _ wrong.1 ok
other_refuted c s done result _ wrong ok = wrong

unanswered_refuted : (c : BlockContext) (s : Scalar) (done : AtomicFunction) (e : AtomicError) → IsUnansweredFault done e → AtomicResultOK c s done None → ⊥
unanswered_refuted c s done fault.MissingReturnValue wrong ok = wrong ok
unanswered_refuted c s done _ wrong ok = wrong

answer_refuted : (c : BlockContext) (s : Scalar) (done : AtomicFunction) (result : Option ℕ) (e : AtomicError) → IsAnswerFault c s done result e → AtomicResultOK c s done result → ⊥
answer_refuted c s done None e wrong ok = unanswered_refuted c s done e wrong ok
answer_refuted c s done (Some result) e (inl wrong) ok = other_refuted c s done result e wrong ok
answer_refuted c s done (Some result) e (inr wrong) ok =
    both (option_and_then declared_answer (slice_get c.f.expressions result)) _ _ (declared_refuted c s (comparand done) result e) wrong ok

-- ---- the whole

value_refuted : (c : BlockContext) (pointer : ℕ) (done : AtomicFunction) (value : ℕ) (result : Option ℕ) (s : Scalar) (e : AtomicError)
    → IsValueFault c value s e → AtomicChangeOK c pointer done value result s → ⊥
value_refuted c pointer done value result s (fault.InvalidOperand x) wrong ok = wrong.1 ok.fits
value_refuted c pointer done value result s _ wrong ok = wrong

changed_refuted : (c : BlockContext) (pointer : ℕ) (done : AtomicFunction) (value : ℕ) (result : Option ℕ) (e : AtomicError) (s : Scalar)
    → IsChangeFault c pointer done value result s e → AtomicChangeOK c pointer done value result s → ⊥
changed_refuted c pointer done value result e s (inl wrong) ok = value_refuted c pointer done value result s e wrong ok
changed_refuted c pointer done value result e s (inr (inl wrong)) ok = scalar_refuted c.capabilities s (form_at c pointer) done result e wrong ok.allowed
changed_refuted c pointer done value result e s (inr (inr wrong)) ok = answer_refuted c s done result e wrong ok.answered

pointer_refuted : (c : BlockContext) (pointer : ℕ) (done : AtomicFunction) (value : ℕ) (result : Option ℕ) (e : AtomicError)
    → IsPointerFault c pointer e → AtomicStatementOK c pointer done value result → ⊥
pointer_refuted c pointer done value result (fault.InvalidPointer x) wrong ok = missing (changed_scalar c.m.types (form_at c pointer)) _ wrong.1 ok
pointer_refuted c pointer done value result _ wrong ok = wrong

error_refuted : (c : BlockContext) (pointer : ℕ) (done : AtomicFunction) (value : ℕ) (result : Option ℕ) (e : AtomicError)
    → IsAtomicError c pointer done value result e → AtomicStatementOK c pointer done value result → ⊥
error_refuted c pointer done value result e (inl wrong) ok = pointer_refuted c pointer done value result e wrong ok
error_refuted c pointer done value result e (inr wrong) ok =
    both (changed_scalar c.m.types (form_at c pointer)) _ _ (changed_refuted c pointer done value result e) wrong ok

atomic_refuted : (c : BlockContext) (pointer : ℕ) (done : AtomicFunction) (value : ℕ) (result : Option ℕ) (e : FunctionError)
    → IsAtomicFault c pointer done value result e → AtomicStatementOK c pointer done value result → ⊥
atomic_refuted c pointer done value result (error.InvalidAtomic e) wrong ok = error_refuted c pointer done value result e wrong ok
atomic_refuted c pointer done value result _ wrong ok = wrong

-- ---- uniform loads

load_refuted : (c : BlockContext) (pointer result : ℕ) (e : FunctionError) → IsUniformLoadFault c pointer result e → UniformLoadStatementOK c pointer result → ⊥
load_refuted c pointer result (error.WorkgroupUniformLoadInvalidPointer x) (same, inl elsewhere) ok = elsewhere ok.space
load_refuted c pointer result (error.WorkgroupUniformLoadInvalidPointer x) (same, inr another) ok =
    both (loaded_at c result) _ _ (λ type never leads. never leads) another ok.answered
load_refuted c pointer result (error.WorkgroupUniformLoadExpressionMismatch x) wrong ok = missing (loaded_at c result) _ wrong.1 ok.answered
load_refuted c pointer result _ wrong ok = wrong

pub faults_refute_lem : FaultsRefute
faults_refute_lem c e = record {
  atomic = λ pointer done value result. atomic_refuted c pointer done value result e;
  image_store = λ image coordinate array_index value. store_refuted c image coordinate array_index value e;
  image_atomic = λ image coordinate array_index done value. change_refuted c image coordinate array_index done value e;
  uniform_load = λ pointer result. load_refuted c pointer result e;
}
