-- An expression that denotes a result is the result of one statement of its kind.
use Rattle.std.proofs.Common.{◌≡◌, ◌∙◌, ℕ, [], Bool, Option, Some, None, is_some, option_and_then, slice_get, sym, ap, subst}
use Rattle.std.proofs.lemmas.Option.{same_Some, slice_get_within}
use Rattle.std.specs.Prelude.{IsSomeAnd}
use Rattle.ir_blocks.specs.judged.Plain.{PlainOperation, control_barrier, memory_barrier, store, image_store, atomic, image_atomic, uniform_load, ray_query, ballot, collective, gather, cooperative_store, ray_pipeline, PlainStatement, emit, block, if_, switch, loop, break, continue, return, kill, operation, call}
use Rattle.ir_types.specs.judged.ExpressionPlain.{PlainExpression, plain}
use Rattle.ir_types.specs.declared.expressions.Expression.TheVariants as x
use Rattle.ir_flags.specs.Sets.{Has}
use Rattle.ir_flags.specs.declared.settings.TheConstants.ValidationFlags.{EXPRESSIONS}
use Rattle.ir_flags.specs.declared.settings.Settings.{Settings}
use Rattle.ir_items.specs.judged.Plain.{PlainEntry}
use Rattle.judgement_laws.specs.found.AcceptedLaws.{IsCallOf, IsAtomicOf, EachAnswered, AnsweredByOne, AnsweredByOneInEntries}
use Rattle.ir_kinds.specs.declared.scalars.Scalar.{Scalar}
use Rattle.spec_expressions.specs.judged.Kinds.{operation_row}
use Rattle.spec_expressions.specs.judged.Operands.{comparand}
use Rattle.spec_statements.specs.judged.Atomics.{AtomicAnswerOK, AtomicAnswer, AtomicChangeOK, changed_scalar, declared_answer}
use Rattle.spec_statements.specs.judged.BlockContext.{BlockContext, form_at}
use Rattle.spec_statements.specs.judged.Functions.{BodyOK}
use Rattle.spec_statements.specs.judged.Results.{of_call, of_atomic, answer_of}
use Rattle.spec_statements.specs.judged.Statements.{OperationOK, StatementOK}

some_and : {A : Type 0} (P : A → Type 0) (o : Option A) → IsSomeAnd o P → (a : A) × P a
some_and P None h = absurd h
some_and P (Some a) h = (a, h)

-- the result of a call is not that of an atomic operation
undeclared : (P : AtomicAnswer → Type 0) (o : Option PlainExpression) (function : ℕ) → o ≡ Some (plain (x.CallResult function)) → ¬ IsSomeAnd (option_and_then declared_answer o) P
undeclared P o function at h = subst (λ z. IsSomeAnd (option_and_then declared_answer z) P) at h

-- the result type of an atomic operation determines whether it is a compare-exchange
compared : (c : BlockContext) (s : Scalar) (o : Option ℕ) (a : AtomicAnswer) → AtomicAnswerOK c s o a → is_some o ≡ a.comparison
compared c s None a h = sym h.1
compared c s (Some compare) a h = sym h.2

module _ (c : BlockContext) (e : ℕ) where
  module _ (function : ℕ) (at : slice_get c.f.expressions e ≡ Some (plain (x.CallResult function))) where
    no_operation : (a : PlainOperation) → OperationOK c a → ¬ ((operation_row a).answer ≡ Some e)
    no_operation (control_barrier barrier) ok is = cc (is)
    no_operation (memory_barrier barrier) ok is = cc (is)
    no_operation (store pointer value) ok is = cc (is)
    no_operation (image_store image coordinate array_index value) ok is = cc (is)
    no_operation (atomic pointer done value None) ok is = cc (is)
    no_operation (atomic pointer done value (Some result)) ok is =
        let changed : (s : Scalar) × AtomicChangeOK c pointer done value (Some result) s = some_and (AtomicChangeOK c pointer done value (Some result)) (changed_scalar c.m.types (form_at c pointer)) ok in
        undeclared (AtomicAnswerOK c changed.0 (comparand done)) (slice_get c.f.expressions result) function (ap (slice_get c.f.expressions) (same_Some _ _ is) ∙ at) changed.1.answered
    no_operation (image_atomic image coordinate array_index done value) ok is = cc (is)
    no_operation (uniform_load pointer result) ok is = cc (is)
    no_operation (ray_query query done) ok is = cc (is)
    no_operation (ballot result predicate) ok is = cc (is)
    no_operation (collective op collective_op argument result) ok is = cc (is)
    no_operation (gather mode argument result) ok is = cc (is)
    no_operation (cooperative_store target place) ok is = cc (is)
    no_operation (ray_pipeline done) ok is = cc (is)

    is_call : (s : PlainStatement) → StatementOK c s → answer_of s ≡ Some e → IsCallOf function e s
    is_call (emit first end) ok is = cc (is)
    is_call (block b) ok is = cc (is)
    is_call (if_ condition accept reject) ok is = cc (is)
    is_call (switch selector cases) ok is = cc (is)
    is_call (loop body continuing break_if) ok is = cc (is)
    is_call break ok is = cc (is)
    is_call continue ok is = cc (is)
    is_call (return value) ok is = cc (is)
    is_call kill ok is = cc (is)
    is_call (operation a) ok is = absurd (no_operation a ok is)
    is_call (call g arguments None) ok is = cc (is)
    is_call (call g arguments (Some result)) ok is =
        let same : result ≡ e = same_Some _ _ is in
        let named = sym ok.answered.1 ∙ (ap (slice_get c.f.expressions) same ∙ at) in
        let callee : g ≡ function = cc (named) in
        (arguments, λ i. call (callee i) arguments (Some (same i)))

  is_atomic : (type : ℕ) (comparison : Bool) → slice_get c.f.expressions e ≡ Some (plain (x.AtomicResult type comparison)) → (s : PlainStatement) → StatementOK c s → answer_of s ≡ Some e → IsAtomicOf comparison e s
  is_atomic type comparison at (emit first end) ok is = cc (is)
  is_atomic type comparison at (block b) ok is = cc (is)
  is_atomic type comparison at (if_ condition accept reject) ok is = cc (is)
  is_atomic type comparison at (switch selector cases) ok is = cc (is)
  is_atomic type comparison at (loop body continuing break_if) ok is = cc (is)
  is_atomic type comparison at break ok is = cc (is)
  is_atomic type comparison at continue ok is = cc (is)
  is_atomic type comparison at (return value) ok is = cc (is)
  is_atomic type comparison at kill ok is = cc (is)
  is_atomic type comparison at (operation (control_barrier barrier)) ok is = cc (is)
  is_atomic type comparison at (operation (memory_barrier barrier)) ok is = cc (is)
  is_atomic type comparison at (operation (store pointer value)) ok is = cc (is)
  is_atomic type comparison at (operation (image_store image coordinate array_index value)) ok is = cc (is)
  is_atomic type comparison at (operation (atomic pointer done value None)) ok is = cc (is)
  is_atomic type comparison at (operation (atomic pointer done value (Some result))) ok is =
      let same : result ≡ e = same_Some _ _ is in
      let changed : (s : Scalar) × AtomicChangeOK c pointer done value (Some result) s = some_and (AtomicChangeOK c pointer done value (Some result)) (changed_scalar c.m.types (form_at c pointer)) ok in
      let answered = subst (λ o. IsSomeAnd (option_and_then declared_answer o) (AtomicAnswerOK c changed.0 (comparand done))) (ap (slice_get c.f.expressions) same ∙ at) changed.1.answered in
      (pointer, done, value, (λ i. operation (atomic pointer done value (Some (same i)))), compared c changed.0 (comparand done) (record { ty = type; comparison = comparison }) answered)
  is_atomic type comparison at (operation (image_atomic image coordinate array_index done value)) ok is = cc (is)
  is_atomic type comparison at (operation (uniform_load pointer result)) ok is = cc (is)
  is_atomic type comparison at (operation (ray_query query done)) ok is = cc (is)
  is_atomic type comparison at (operation (ballot result predicate)) ok is = cc (is)
  is_atomic type comparison at (operation (collective op collective_op argument result)) ok is = cc (is)
  is_atomic type comparison at (operation (gather mode argument result)) ok is = cc (is)
  is_atomic type comparison at (operation (cooperative_store target place)) ok is = cc (is)
  is_atomic type comparison at (operation (ray_pipeline done)) ok is = cc (is)
  is_atomic type comparison at (call g arguments None) ok is = cc (is)
  is_atomic type comparison at (call g arguments (Some result)) ok is =
      let named = sym ok.answered.1 ∙ (ap (slice_get c.f.expressions) (same_Some _ _ is) ∙ at) in
      cc (named)

module _ (s : Settings) (held : Option ℕ) (c : BlockContext) (body : BodyOK s held c) (expressions : Has s.flags.0 EXPRESSIONS.0) where
  each_answered : EachAnswered c.f
  each_answered = record {
    calls = λ e function at.
        let found = body.answered.each expressions e (of_call at) in
        record {
          place = found.0;
          statement = found.1.0;
          stands = found.1.1;
          is = is_call c e function at found.1.0 (body.statements found.0 found.1.0 found.1.1) found.1.2;
          alone = λ other t stands is. body.answered.once other found.0 e (t, stands, ap answer_of is.1) found.1;
        };
    atomics = λ e type comparison at.
        let found = body.answered.each expressions e (of_atomic at) in
        record {
          place = found.0;
          statement = found.1.0;
          stands = found.1.1;
          is = is_atomic c e type comparison at found.1.0 (body.statements found.0 found.1.0 found.1.1) found.1.2;
          alone = λ other t stands is. body.answered.once other found.0 e (t, stands, ap answer_of is.3) found.1;
        };
  }

pub answered_by_one : AnsweredByOne
answered_by_one s m ok blocks expressions index f at =
    let here = ok index (slice_get_within m.functions index f at) in
    let same : here.function ≡ f = same_Some _ _ (sym here.at ∙ at) in
    subst EachAnswered same (each_answered _ _ _ ((here.ok []).body blocks) expressions)

pub answered_in_entries : AnsweredByOneInEntries
answered_in_entries s m ok blocks expressions number e at =
    let here = ok number (slice_get_within m.entries number e at) in
    let same : here.entry ≡ e = same_Some _ _ (sym here.at ∙ at) in
    subst (λ (found : PlainEntry). EachAnswered found.function) same (each_answered _ _ _ (here.ok.function.body blocks) expressions)
