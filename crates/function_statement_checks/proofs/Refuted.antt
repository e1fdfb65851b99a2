-- A statement with a fault does not meet its rule.
use Rattle.std.proofs.Common.{◌≡◌, ℕ, List, [], ◌∷◌, Option, Some, None, All, IfSome, inl, inr, slice_get, refl, sym, subst, ◌∙◌}
use Rattle.std.proofs.lemmas.List.Elements.{All-head, All-tail}
use Rattle.typing_errors.specs.declared.error.FunctionError.{FunctionError}
use Rattle.typing_errors.specs.declared.error.FunctionError.TheVariants as error
use Rattle.typing_errors.specs.declared.calls.CallError.{CallError}
use Rattle.typing_errors.specs.declared.calls.CallError.TheVariants.{ArgumentType, ExpressionMismatch}
use Rattle.typing_errors.specs.declared.subgroups.SubgroupError.TheVariants.{UnsupportedOperation}
use Rattle.ir_types.specs.judged.ExpressionPlain.{PlainExpression}
use Rattle.ir_types.specs.declared.expressions.CooperativeData.{CooperativeData}
use Rattle.ir_arena.specs.judged.Handles.{handles_between}
use Rattle.ir_flags.specs.declared.memory.Barrier.{Barrier}
use Rattle.ir_items.specs.judged.Plain.{PlainFunction}
use Rattle.ir_kinds.specs.declared.scalars.Scalar.{Scalar}
use Rattle.typing_rules.specs.judged.Laws.{IsAmong}
use Rattle.spec_statements.specs.judged.Barriers.{BarrierOK}
use Rattle.spec_statements.specs.judged.BlockContext.{BlockContext, form_at}
use Rattle.spec_statements.specs.judged.Calls.{CallOK, CallResultOK}
use Rattle.spec_statements.specs.judged.Conditions.{ConditionOK}
use Rattle.spec_expressions.specs.judged.CooperativeMatrices.{pointed_scalar}
use Rattle.spec_statements.specs.judged.CooperativeStores.{CooperativeStoreOK, matrix_scalar}
use Rattle.spec_statements.specs.judged.Emits.{EmitOK, IsEmittable}
use Rattle.spec_statements.specs.judged.Returns.{ReturnOK}
use Rattle.spec_statements.specs.judged.Stores.{StoreOK, BeginsAt, itself, through, IsVariableAt}
use Rattle.function_statement_checks.specs.Barriers.{IsBarrierFault}
use Rattle.function_statement_checks.specs.Calls.{IsCallError, IsCallFault}
use Rattle.function_statement_checks.specs.Conditions.{IsConditionFault}
use Rattle.function_statement_checks.specs.CooperativeStores.{IsCooperativeFault, IsOtherScalar}
use Rattle.function_statement_checks.specs.Emits.{IsEmitFault}
use Rattle.function_statement_checks.specs.Laws.{FaultsRefute}
use Rattle.function_statement_checks.specs.Returns.{IsReturnFault}
use Rattle.function_statement_checks.specs.Stores.{IsStoreFault}
use Rattle.typing_forms.specs.judged.Forms.{form_of_type}

barrier_refuted : (c : BlockContext) (b : Barrier) (e : FunctionError) → IsBarrierFault c b e → BarrierOK c b → ⊥
barrier_refuted c b (error.MissingCapability missing) fault ok = fault.2 ((ok fault.0).subgroups, (ok fault.0).barriers)
barrier_refuted c b (error.InvalidSubgroup (UnsupportedOperation set)) fault ok = fault.1.1 (ok fault.0).basic
barrier_refuted c b (error.InvalidSubgroup _) fault ok = fault.1
barrier_refuted c b _ fault ok = fault

condition_refuted : (c : BlockContext) (h : ℕ) (e : FunctionError) → IsConditionFault c h e → ConditionOK (form_at c h) → ⊥
condition_refuted c h (error.InvalidIfType x) fault ok = fault.1 ok
condition_refuted c h _ fault ok = fault

no_other : (wanted found : Option Scalar) (s : Scalar) → wanted ≡ Some s → found ≡ Some s → IsOtherScalar wanted found → ⊥
no_other (Some t) found s is found_is other = other (found_is ∙ sym is)
no_other None found s is found_is other = other

cooperative_refuted : (c : BlockContext) (h : ℕ) (place : CooperativeData) (e : FunctionError) → IsCooperativeFault c h place e → CooperativeStoreOK c h place → ⊥
cooperative_refuted c h place (error.InvalidCooperativeStoreTarget x) fault ok = let none = fault.1 in let some = ok.matrix in cc
cooperative_refuted c h place (error.InvalidCooperativeDataPointer x) fault ok = no_other (matrix_scalar (form_at c h)) (pointed_scalar c.m.types (form_at c place.pointer)) ok.scalar ok.matrix ok.fits fault.1
cooperative_refuted c h place (error.InvalidStorePointer x) fault ok = fault.1 ok.writable
cooperative_refuted c h place _ fault ok = fault

one_of_all : (P : ℕ → Type 0) (xs : List ℕ) (x : ℕ) → All P xs → IsAmong x xs → P x
one_of_all P [] x all among = absurd among
one_of_all P (y ∷ ys) x all (inl same) = subst P same (All-head P y ys all)
one_of_all P (y ∷ ys) x all (inr more) = one_of_all P ys x (All-tail P y ys all) more

emit_refuted : (c : BlockContext) (first end : ℕ) (e : FunctionError) → IsEmitFault c first end e → EmitOK c.f.expressions first end → ⊥
emit_refuted c first end (error.EmitResult x) fault ok = fault.1 (one_of_all (λ h. IfSome (slice_get c.f.expressions h) IsEmittable) (handles_between (first, end)) x ok fault.0)
emit_refuted c first end _ fault ok = fault

return_refuted : (c : BlockContext) (value : Option ℕ) (e : FunctionError) → IsReturnFault c value e → ReturnOK c value → ⊥
return_refuted c value (error.InvalidReturnType x ty) fault ok = fault.2 ok
return_refuted c value _ fault ok = fault

-- a chain of accesses begins at one expression
one_beginning : (xs : List PlainExpression) (h a b : ℕ) → BeginsAt xs h a → BeginsAt xs h b → a ≡ b
one_beginning xs h _ _ (itself none) (itself other) = refl
one_beginning xs h _ b (itself none) (through some rest) = absurd (let x = none in let y = some in cc)
one_beginning xs h a _ (through some rest) (itself none) = absurd (let x = none in let y = some in cc)
one_beginning xs h a b (through {base = base} some rest) (through {base = other} more tail) =
    let same : other ≡ base = (let x = some in let y = more in cc) in
    one_beginning xs base a b rest (subst (λ n. BeginsAt xs n b) same tail)

store_refuted : (c : BlockContext) (pointer value : ℕ) (e : FunctionError) → IsStoreFault c pointer value e → StoreOK c pointer value → ⊥
store_refuted c pointer value (error.InvalidStorePointer start) (inl begins) ok =
    begins.1 (subst (IsVariableAt c.f.expressions) (one_beginning c.f.expressions pointer ok.place.0 start ok.place.1 begins.0) ok.place.2)
store_refuted c pointer value (error.InvalidStorePointer start) (inr fixed) ok = fixed.1 ok.writable
store_refuted c pointer value (error.InvalidStoreTexture actual ty) fault ok = fault.2 ok.storable
store_refuted c pointer value (error.InvalidStoreTypes at what) fault ok = fault.2 ok.fits
store_refuted c pointer value _ fault ok = fault

error_refuted : (c : BlockContext) (function : ℕ) (callee : PlainFunction) (arguments : List ℕ) (result : Option ℕ) (e : CallError) → slice_get c.m.functions function ≡ Some callee
    → IsCallError c function callee arguments result e → CallOK c function arguments result → ⊥
error_refuted c function callee arguments result (ArgumentType place required seen) found fault ok =
    let same : ok.callee ≡ callee = (let x = found in let y = ok.called in cc) in
    let declared : slice_get ok.callee.arguments place ≡ Some fault.argument = subst (λ g. slice_get g.arguments place ≡ Some fault.argument) (sym same) fault.declared in
    fault.differs (subst (λ t. form_at c seen ≡ form_of_type c.m.types t) fault.ty (ok.passed place seen fault.argument fault.passed declared))
error_refuted c function callee arguments result (ExpressionMismatch x) found fault ok =
    let same : ok.callee ≡ callee = (let x = found in let y = ok.called in cc) in
    fault.1 (subst (λ g. CallResultOK c function g result) same ok.answered)
error_refuted c function callee arguments result _ found fault ok = fault

call_refuted : (c : BlockContext) (function : ℕ) (arguments : List ℕ) (result : Option ℕ) (e : FunctionError) → IsCallFault c function arguments result e → CallOK c function arguments result → ⊥
call_refuted c function arguments result (error.InvalidCall called e) fault ok = error_refuted c function fault.callee arguments result e fault.found fault.wrong ok
call_refuted c function arguments result _ fault ok = fault

pub faults_refute_lem : FaultsRefute
faults_refute_lem c e = record {
  barrier = λ b. barrier_refuted c b e;
  call = λ function arguments result. call_refuted c function arguments result e;
  condition = λ h. condition_refuted c h e;
  cooperative_store = λ h place. cooperative_refuted c h place e;
  emitted = λ first end. emit_refuted c first end e;
  returned = λ value. return_refuted c value e;
  stored = λ pointer value. store_refuted c pointer value e;
}
