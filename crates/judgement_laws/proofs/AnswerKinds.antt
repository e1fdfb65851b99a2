-- Expressions that denote the result of a statement have no operands, if strict scope is valid.
use Rattle.std.proofs.Common.{◌≡◌, ℕ, Option, Some, None, IsSomeAnd, option_and_then, slice_get, refl, sym, ap, ◌∙◌, subst, []}
use Rattle.ir_blocks.specs.judged.Places.{Place, OccursAt}
use Rattle.ir_blocks.specs.judged.Plain.{PlainOperation, control_barrier, memory_barrier, store, image_store, atomic, image_atomic, uniform_load, ray_query, ballot, collective, gather, cooperative_store, ray_pipeline, PlainStatement, emit, block, if_, switch, loop, break, continue, return, kill, operation, call}
use Rattle.ir_blocks.specs.declared.operations.AtomicFunction.{AtomicFunction}
use Rattle.ir_blocks.specs.declared.operations.RayQueryFunction.{RayQueryFunction}
use Rattle.ir_blocks.specs.declared.operations.RayQueryFunction.TheVariants as ray
use Rattle.ir_kinds.specs.declared.scalars.Scalar.{Scalar}
use Rattle.ir_types.specs.judged.ExpressionPlain.{PlainExpression, plain}
use Rattle.ir_types.specs.declared.expressions.Expression.TheVariants as x
use Rattle.spec_expressions.specs.judged.ExpressionNames.{expression_operands}
use Rattle.spec_expressions.specs.judged.Kinds.{operation_row, ray_result}
use Rattle.spec_statements.specs.judged.Atomics.{AtomicResultOK, AtomicChangeOK, changed_scalar, declared_answer}
use Rattle.spec_statements.specs.judged.BlockContext.{BlockContext, form_at}
use Rattle.spec_statements.specs.judged.Calls.{CallResultOK}
use Rattle.spec_statements.specs.judged.Statements.{StatementOK}
use Rattle.spec_statements.specs.judged.Strict.{StrictOK}
use Rattle.spec_statements.specs.judged.Subgroups.{answered_type}
use Rattle.spec_statements.specs.judged.UniformLoads.{loaded_type}
use Rattle.ir_items.specs.judged.Plain.{PlainFunction}
use Rattle.spec_runs.specs.judged.Laws.{AnswersNameNothing}

no_answer : {A : Type 0} (e : ℕ) → None ≡ Some e → A
no_answer e is = let y = is in absurd (cc)

some_and : {A : Type 0} (o : Option A) (P : A → Type 0) → IsSomeAnd o P → (a : A) × P a
some_and None P h = absurd h
some_and (Some a) P h = (a, h)

-- from a property of the expression read to one of the expression
told : {A : Type 0} (read : PlainExpression → Option A) (o : Option PlainExpression) (P : A → Type 0) (v : PlainExpression) → IsSomeAnd (option_and_then read o) P → o ≡ Some v → (a : A) × (read v ≡ Some a)
told read o P v h is = by_read (read v) refl (subst (λ z. IsSomeAnd (option_and_then read z) P) is h)
  where
    by_read : (r : Option _) → read v ≡ r → IsSomeAnd (read v) P → (a : _) × (read v ≡ Some a)
    by_read None at given = absurd (subst (λ z. IsSomeAnd z P) at given)
    by_read (Some a) at given = (a, at)

atomic_quiet : (v : PlainExpression) (a : _) → declared_answer v ≡ Some a → expression_operands v ≡ []
atomic_quiet (plain (x.AtomicResult type comparison)) a is = refl
atomic_quiet _ a is = let y = is in absurd (cc)

loaded_quiet : (v : PlainExpression) (a : ℕ) → loaded_type v ≡ Some a → expression_operands v ≡ []
loaded_quiet (plain (x.WorkGroupUniformLoadResult type)) a is = refl
loaded_quiet _ a is = no_answer a is

subgroup_quiet : (v : PlainExpression) (a : ℕ) → answered_type v ≡ Some a → expression_operands v ≡ []
subgroup_quiet (plain (x.SubgroupOperationResult type)) a is = refl
subgroup_quiet _ a is = no_answer a is

same : (o : Option PlainExpression) (v w : PlainExpression) → o ≡ Some v → o ≡ Some w → v ≡ w
same o v w first second = cc (first, second)

module _ (c : BlockContext) (statements : (p : Place) (u : PlainStatement) → OccursAt c.f.body p u → StatementOK c u) (strict : StrictOK c.f) where
  is_quiet : (e : ℕ) (w v : PlainExpression) → slice_get c.f.expressions e ≡ Some w → slice_get c.f.expressions e ≡ Some v → expression_operands w ≡ [] → expression_operands v ≡ []
  is_quiet e w v declared at quiet = ap expression_operands (sym (same (slice_get c.f.expressions e) w v declared at)) ∙ quiet

  of_atomic : (s : Scalar) (done : AtomicFunction) (result : Option ℕ) (e : ℕ) (v : PlainExpression) → AtomicResultOK c s done result → result ≡ Some e → slice_get c.f.expressions e ≡ Some v → expression_operands v ≡ []
  of_atomic s done None e v ok is at = no_answer e is
  of_atomic s done (Some r) e v ok is at =
      let there : r ≡ e = (let y = is in cc) in
      let t = told declared_answer (slice_get c.f.expressions r) _ v ok (ap (slice_get c.f.expressions) there ∙ at) in atomic_quiet v t.0 t.1

  of_call : (function : ℕ) (callee : PlainFunction) (result : Option ℕ) (e : ℕ) (v : PlainExpression) → CallResultOK c function callee result → result ≡ Some e → slice_get c.f.expressions e ≡ Some v → expression_operands v ≡ []
  of_call function callee None e v ok is at = no_answer e is
  of_call function callee (Some r) e v ok is at =
      let there : r ≡ e = (let y = is in cc) in is_quiet e (plain (x.CallResult function)) v (subst (λ n. slice_get c.f.expressions n ≡ Some (plain (x.CallResult function))) there ok.1) at refl

  of_step : (p : Place) (query : ℕ) (fun : RayQueryFunction) → OccursAt c.f.body p (operation (ray_query query fun)) → (e : ℕ) (v : PlainExpression) → ray_result fun ≡ Some e → slice_get c.f.expressions e ≡ Some v → expression_operands v ≡ []
  of_step p query (ray.Initialize acceleration_structure descriptor) stands e v is at = no_answer e is
  of_step p query (ray.Proceed result) stands e v is at =
      let there : result ≡ e = (let y = is in cc) in
      is_quiet e (plain x.RayQueryProceedResult) v (subst (λ n. slice_get c.f.expressions n ≡ Some (plain x.RayQueryProceedResult)) there (strict.proceeds p query result stands)) at refl
  of_step p query (ray.GenerateIntersection hit_t) stands e v is at = no_answer e is
  of_step p query ray.ConfirmIntersection stands e v is at = no_answer e is
  of_step p query ray.Terminate stands e v is at = no_answer e is

  of_operation : (p : Place) (a : PlainOperation) → OccursAt c.f.body p (operation a) → (e : ℕ) (v : PlainExpression) → (operation_row a).result ≡ Some e → slice_get c.f.expressions e ≡ Some v → expression_operands v ≡ []
  of_operation p (control_barrier barrier) stands e v is at = no_answer e is
  of_operation p (memory_barrier barrier) stands e v is at = no_answer e is
  of_operation p (store pointer value) stands e v is at = no_answer e is
  of_operation p (image_store image coordinate array_index value) stands e v is at = no_answer e is
  of_operation p (atomic pointer fun value result) stands e v is at =
      let done = some_and (changed_scalar c.m.types (form_at c pointer)) (AtomicChangeOK c pointer fun value result) (statements p (operation (atomic pointer fun value result)) stands) in of_atomic done.0 fun result e v done.1.answered is at
  of_operation p (image_atomic image coordinate array_index fun value) stands e v is at = no_answer e is
  of_operation p (uniform_load pointer result) stands e v is at =
      let there : result ≡ e = (let y = is in cc) in
      let t = told loaded_type (slice_get c.f.expressions result) _ v (statements p (operation (uniform_load pointer result)) stands).answered (ap (slice_get c.f.expressions) there ∙ at) in loaded_quiet v t.0 t.1
  of_operation p (ray_query query fun) stands e v is at = of_step p query fun stands e v is at
  of_operation p (ballot result predicate) stands e v is at =
      let there : result ≡ e = (let y = is in cc) in
      is_quiet e (plain x.SubgroupBallotResult) v (subst (λ n. slice_get c.f.expressions n ≡ Some (plain x.SubgroupBallotResult)) there (strict.ballots p result predicate stands)) at refl
  of_operation p (collective op collective_op argument result) stands e v is at =
      let there : result ≡ e = (let y = is in cc) in
      let t = told answered_type (slice_get c.f.expressions result) _ v (statements p (operation (collective op collective_op argument result)) stands).answered (ap (slice_get c.f.expressions) there ∙ at) in subgroup_quiet v t.0 t.1
  of_operation p (gather mode argument result) stands e v is at =
      let there : result ≡ e = (let y = is in cc) in
      let t = told answered_type (slice_get c.f.expressions result) _ v (statements p (operation (gather mode argument result)) stands).answered (ap (slice_get c.f.expressions) there ∙ at) in subgroup_quiet v t.0 t.1
  of_operation p (cooperative_store target place) stands e v is at = no_answer e is
  of_operation p (ray_pipeline fun) stands e v is at = no_answer e is

  pub answers_name_nothing : AnswersNameNothing c.f
  answers_name_nothing p (emit first end) stands e is v at = no_answer e is
  answers_name_nothing p (block b) stands e is v at = no_answer e is
  answers_name_nothing p (if_ test accept reject) stands e is v at = no_answer e is
  answers_name_nothing p (switch selector cases) stands e is v at = no_answer e is
  answers_name_nothing p (loop body continuing break_if) stands e is v at = no_answer e is
  answers_name_nothing p break stands e is v at = no_answer e is
  answers_name_nothing p continue stands e is v at = no_answer e is
  answers_name_nothing p (return value) stands e is v at = no_answer e is
  answers_name_nothing p kill stands e is v at = no_answer e is
  answers_name_nothing p (operation a) stands e is v at = of_operation p a stands e v is at
  answers_name_nothing p (call function arguments result) stands e is v at =
      let ok = statements p (call function arguments result) stands in of_call function ok.callee result e v ok.answered is at
