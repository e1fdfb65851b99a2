-- What is wrong at a place, in the words of the rules.
use Rattle.std.proofs.Common.{◌≡◌, ℕ, inl, inr, Bool, true, false, List, [], ◌∷◌, ◌++◌, Option, Some, None, Contains, slice_get, option_to_list, refl, sym, ap, ◌∙◌, subst, arith}
use Rattle.std.proofs.lemmas.List.Elements.{All-nil, All-contains, All-cons}
use Rattle.typing_errors.specs.declared.error.FunctionError.{FunctionError}
use Rattle.typing_errors.specs.declared.error.FunctionError.TheVariants as error
use Rattle.typing_errors.specs.declared.atomics.AtomicError.{AtomicError}
use Rattle.typing_errors.specs.declared.atomics.AtomicError.TheVariants as atomic_error
use Rattle.typing_errors.specs.declared.calls.CallError.{CallError}
use Rattle.typing_errors.specs.declared.calls.CallError.TheVariants as call_error
use Rattle.ir_blocks.specs.judged.Places.{Place, Spot, nothing, statement, loop_condition, spot_at}
use Rattle.ir_blocks.specs.judged.Plain.{PlainStatement, emit, block, if_, switch, loop, break, continue, return, kill, operation, call}
use Rattle.ir_flags.specs.Sets.{Has}
use Rattle.ir_flags.specs.declared.settings.ValidationFlags.{ValidationFlags}
use Rattle.ir_flags.specs.declared.settings.TheConstants.ValidationFlags.{EXPRESSIONS}
use Rattle.ir_items.specs.judged.Plain.{PlainFunction}
use Rattle.spec_statements.proofs.AnswerLaws.{answered_elsewhere, by_held, once_by_walk_lem}
use Rattle.spec_statements.proofs.ScopeLaws.{scope_by_walk_lem}
use Rattle.spec_statements.specs.found.Answered.{answered_in, answered_before, EachOnce}
use Rattle.spec_statements.specs.judged.Results.{answer_of, AnswersBy}
use Rattle.spec_statements.specs.judged.Scope.{InScope, ScopeOK}
use Rattle.spec_statements.specs.judged.Tables.{checked_at, introduced_at}
use Rattle.spec_statements.specs.judged.Visible.{visible}
use Rattle.function_body_checks.proofs.Conversions.{fine_at, answering}
use Rattle.function_body_checks.specs.Carried.{Fine, Known, AllFine, FaultAt, IfFault, IsFaultHere, IsCallError, IsAtomicError, IsAgain, IsArgumentError, answer_at, callee_at}
use Rattle.ir_places.proofs.TrailLaws.{placed_then}
use Rattle.ir_places.specs.Paths.{IsPlaced}
use Rattle.ir_places.specs.declared.trail.Trail.{Trail}
use Rattle.function_body_checks.specs.declared.error.ScopeError.{ScopeError}
use Rattle.function_body_checks.specs.declared.error.ScopeError.TheVariants as scope_error
use Rattle.function_body_checks.specs.Faults.{IsScopeFaultAt, IsCallErrorAt, IsAtomicErrorIn, IsPopulated}

-- ---- what stands at a place

pub record CallAt (spot : Spot) (function : ℕ) : Type 0 where
  pub arguments : List ℕ
  pub answer : Option ℕ
  pub is : spot ≡ statement (call function arguments answer)

no_callee : {A : Type 0} (g : ℕ) → None ≡ Some g → A
no_callee g is = let x = is in absurd (cc)

pub call_at : (spot : Spot) (g : ℕ) → callee_at spot ≡ Some g → CallAt spot g
call_at nothing g is = no_callee g is
call_at (loop_condition break_if) g is = no_callee g is
call_at (statement (emit first end)) g is = no_callee g is
call_at (statement (block b)) g is = no_callee g is
call_at (statement (if_ test accept reject)) g is = no_callee g is
call_at (statement (switch selector cases)) g is = no_callee g is
call_at (statement (loop body continuing break_if)) g is = no_callee g is
call_at (statement break) g is = no_callee g is
call_at (statement continue) g is = no_callee g is
call_at (statement (return value)) g is = no_callee g is
call_at (statement kill) g is = no_callee g is
call_at (statement (operation a)) g is = no_callee g is
call_at (statement (call function arguments answer)) g is = record { arguments = arguments; answer = answer; is = ap (λ x. statement (call x arguments answer)) (let y : function ≡ g = (let x = is in cc) in y) }

answers_at : (spot : Spot) (e : ℕ) → answer_at spot ≡ Some e → (s : PlainStatement) × (spot ≡ statement s) × (answer_of s ≡ Some e)
answers_at nothing e is = no_callee e is
answers_at (loop_condition break_if) e is = no_callee e is
answers_at (statement s) e is = (s, refl, is)

at_answers : (spot : Spot) (e : ℕ) (s : PlainStatement) → spot ≡ statement s → answer_of s ≡ Some e → answer_at spot ≡ Some e
at_answers spot e s is by = ap answer_at is ∙ by

pub given_one : (o : Option ℕ) (e : ℕ) → Contains (option_to_list o) e → o ≡ Some e
given_one None e held = absurd (omega (arith, held.1))
given_one (Some x) e held = All-contains (λ y. Some x ≡ Some y) (x ∷ []) e (All-cons (λ y. Some x ≡ Some y) x [] refl (All-nil (λ y. Some x ≡ Some y))) held

-- ---- from one fault to another

pub if_fault_then : (r : ScopeError) (P Q : FunctionError → Type 0) → ((e : FunctionError) → P e → Q e) → IfFault r P → IfFault r Q
if_fault_then (scope_error.Memory e) P Q then h = h
if_fault_then (scope_error.Unknown e) P Q then h = then _ h
if_fault_then (scope_error.UnknownArgument function index) P Q then h = then _ h
if_fault_then (scope_error.Known e) P Q then h = then _ h
if_fault_then (scope_error.KnownResult function answer) P Q then h = then _ h
if_fault_then (scope_error.Answered function answer) P Q then h = then _ h
if_fault_then (scope_error.AnsweredAtomic answer) P Q then h = then _ h

-- ---- faults

module _ (flags : ValidationFlags) (f : PlainFunction) (asked : Bool) (unasked : asked ≡ false → Has flags.0 EXPRESSIONS.0 → ⊥) where
  in_scope : (p : Place) (e : ℕ) → Known f (visible [] p f.body) e → InScope f p e
  in_scope p e known = (scope_by_walk_lem f p e).1 known

  not_in_scope : (p : Place) (e : ℕ) → ¬ Known f (visible [] p f.body) e → InScope f p e → ⊥
  not_in_scope p e unknown scope = unknown ((scope_by_walk_lem f p e).0 scope)

  populated : (p : Place) (e : ℕ) → IsAgain asked (answered_before [] p f.body) e → IsPopulated flags f p e
  populated p e (inl unasked_for) = inl (unasked unasked_for)
  populated p e (inr held) = elim (answered_elsewhere p f.body [] e held) [
    | inl none ↦ absurd (omega (arith, none.1))
    | inr found ↦ inr (found.place, found.answers, found.other)
  ]

  call_error_at : (p : Place) (g : ℕ) (found : CallAt (spot_at p f.body) g) (e : CallError) → IsCallError f asked (spot_at p f.body) (visible [] p f.body) (answered_before [] p f.body) e
      → IsCallErrorAt flags f p found.arguments found.answer e
  call_error_at p g found (call_error.Argument place source) h =
      (h.0, (h.1.0, subst (λ spot. slice_get (checked_at spot) place ≡ Some h.1.0) found.is h.1.1, not_in_scope p h.1.0 h.1.2))
  call_error_at p g found (call_error.ResultAlreadyInScope e) h =
      (given_one found.answer e (subst (λ spot. Contains (introduced_at spot) e) found.is h.0), in_scope p e h.1)
  call_error_at p g found (call_error.ResultAlreadyPopulated e) h = (sym (ap answer_at found.is) ∙ h.0, populated p e h.1)
  call_error_at p g found _ h = absurd h

  atomic_error_at : (p : Place) (e : AtomicError) → callee_at (spot_at p f.body) ≡ None → IsAtomicError asked (spot_at p f.body) (answered_before [] p f.body) e → IsAtomicErrorIn flags f p e
  atomic_error_at p (atomic_error.ResultAlreadyPopulated e) other h =
      let by = answers_at (spot_at p f.body) e h.0 in record { other = other; answers = (by.0, by.1, by.2); again = populated p e h.1 }
  atomic_error_at p _ other h = absurd h

  fault_reported : (p : Place) (e : FunctionError) → IsFaultHere f asked (spot_at p f.body) (visible [] p f.body) (answered_before [] p f.body) e → IsScopeFaultAt flags f e p
  fault_reported p (error.Expression e source) h = (h.1, record { other = h.0; used = h.2.0; unknown = not_in_scope p e h.2.1 })
  fault_reported p (error.ExpressionAlreadyInScope e) h = record { other = h.0; brought = h.1; known = in_scope p e h.2 }
  fault_reported p (error.InvalidCall g e) h =
      let found = call_at (spot_at p f.body) g h.0 in
      record { arguments = found.arguments; answer = found.answer; stands = found.is; wrong = call_error_at p g found e h.1 }
  fault_reported p (error.InvalidAtomic e) h = atomic_error_at p e h.0 h.1
  fault_reported p _ h = absurd h

  pub reported_in_body : (t : Trail) (e : ScopeError) (scope answered : List ℕ) → scope ≡ [] → answered ≡ [] → IsPlaced t (FaultAt f asked scope answered f.body e)
      → IsPlaced t (λ p. IfFault e (λ x. IsScopeFaultAt flags f x p))
  reported_in_body t e scope answered none silent wrong =
      placed_then t (FaultAt f asked scope answered f.body e) (λ p. IfFault e (λ x. IsScopeFaultAt flags f x p))
      (λ p there. if_fault_then e (IsFaultHere f asked (spot_at p f.body) (visible [] p f.body) (answered_before [] p f.body)) (λ x. IsScopeFaultAt flags f x p) (fault_reported p)
      (subst (λ xs. FaultAt f asked xs [] f.body e p) none (subst (λ xs. FaultAt f asked scope xs f.body e p) silent there))) wrong

-- ---- fine bodies

module _ (f : PlainFunction) (asked : Bool) (scope answered : List ℕ) (none : scope ≡ []) (silent : answered ≡ []) (fine : AllFine f asked scope answered f.body) where
  at_place : (p : Place) → Fine f asked (spot_at p f.body) (visible [] p f.body) (answered_before [] p f.body)
  at_place p = fine_at f asked p [] [] f.body (subst (λ xs. AllFine f asked xs [] f.body) none (subst (λ xs. AllFine f asked scope xs f.body) silent fine))

  pub scope_fine : ScopeOK f
  scope_fine = record {
    in_scope = λ p e used. (scope_by_walk_lem f p e).1 (All-contains (Known f (visible [] p f.body)) (checked_at (spot_at p f.body)) e (at_place p).used used);
    fresh = λ p e brought scoped. All-contains (λ x. ¬ Known f (visible [] p f.body) x) (introduced_at (spot_at p f.body)) e (at_place p).fresh brought ((scope_by_walk_lem f p e).0 scoped);
  }

  pub each_once : EachOnce f.body
  each_once = (once_by_walk_lem f.body).0 (λ p e by held. (at_place p).once e (at_answers (spot_at p f.body) e by.0 by.1 by.2) held)

  pub is_asked : (p : Place) (e : ℕ) → AnswersBy f.body p e → asked ≡ true
  is_asked p e by = (at_place p).asks e (at_answers (spot_at p f.body) e by.0 by.1 by.2)

  pub all_answers : (now : List ℕ) → now ≡ answered ++ answered_in f.body → (e : ℕ) → (Contains now e → (p : Place) × AnswersBy f.body p e) × ((p : Place) × AnswersBy f.body p e → Contains now e)
  all_answers now is e =
      let same : now ≡ answered_in f.body = is ∙ ap (λ xs. xs ++ answered_in f.body) silent in (
        (λ held. answering f.body e (subst (λ xs. Contains xs e) same held)),
        (λ found. subst (λ xs. Contains xs e) (sym same) (by_held found.0 f.body e found.1)),
      )

-- ---- what is passed to a function

pub argument_fault : (f : PlainFunction) (asked : Bool) (s : PlainStatement) (scope answered : List ℕ) (function : ℕ) (arguments : List ℕ) (e : FunctionError)
    → callee_at (statement s) ≡ Some function → arguments ≡ checked_at (statement s) → IsArgumentError f scope function arguments e → IsFaultHere f asked (statement s) scope answered e
argument_fault f asked s scope answered function arguments (error.InvalidCall called (call_error.Argument place source)) callee is h =
    (callee ∙ ap Some (sym h.0), (h.1, (h.2.0, subst (λ xs. slice_get xs place ≡ Some h.2.0) is h.2.1, h.2.2)))
argument_fault f asked s scope answered function arguments _ callee is h = absurd h
