-- What is required of a statement itself.
use Rattle.std.proofs.Common.{◌≡◌, ℕ, inl, inr, Bool, true, false, List, ◌∷◌, All, Option, Some, None, slice_get, option_to_list, refl, sym, ap, ◌∙◌, subst, true≢false, []}
use Rattle.std.proofs.lemmas.List.Elements.{All-nil, All-cons}
use Rattle.typing_errors.specs.declared.expressions.ExpressionError.TheVariants.{NotInScope}
use Rattle.typing_errors.specs.declared.error.FunctionError.{FunctionError}
use Rattle.typing_errors.specs.declared.error.FunctionError.TheVariants as error
use Rattle.typing_errors.specs.declared.calls.CallError.TheVariants as call_error
use Rattle.ir_blocks.specs.judged.Places.{statement, loop_condition}
use Rattle.ir_blocks.specs.judged.Plain.{PlainStatement, emit, block, if_, switch, loop, break, continue, return, kill, operation, call}
use Rattle.ir_types.specs.judged.ExpressionPlain.{PlainExpression, plain}
use Rattle.ir_types.specs.declared.expressions.Expression.TheVariants.{RayQueryProceedResult, SubgroupBallotResult}
use Rattle.ir_items.specs.judged.Plain.{PlainFunction}
use Rattle.spec_expressions.specs.judged.StatementNames.{statement_callee, statement_range, statement_result}
use Rattle.spec_expressions.specs.judged.Kinds.{Emitted}
use Rattle.spec_statements.specs.judged.Strict.{statement_needed, needed_at}
use Rattle.spec_statements.specs.judged.Tables.{introduced}
use Rattle.function_body_checks.proofs.Tables.{head_held}
use Rattle.function_body_checks.specs.Carried.{IsArgumentError, IsUnknown, Known}
use Rattle.function_strict_scope.specs.Tables.{proceeds_by, ballots_by, is_proceed, is_ballot}
use Rattle.function_strict_scope.specs.Walked.{AnswerKindOK, IsFaultHere, IsFaultOfNew, emitted_by}

-- ---- operands

pub argument_fault : (f : PlainFunction) (s : PlainStatement) (sure : List ℕ) (function : ℕ) (arguments : List ℕ) (e : FunctionError)
    → statement_callee s ≡ Some function → arguments ≡ statement_needed s → IsArgumentError f sure function arguments e → IsFaultHere f (statement s) sure e
argument_fault f s sure function arguments (error.InvalidCall called (call_error.Argument place source)) callee is h =
    (callee ∙ ap Some (sym h.0), h.1, (h.2.0, subst (λ xs. slice_get xs place ≡ Some h.2.0) is h.2.1, h.2.2))
argument_fault f s sure function arguments _ callee is h = absurd h

pub operand_fault : (f : PlainFunction) (s : PlainStatement) (sure : List ℕ) (o : ℕ) (e : FunctionError) → statement_callee s ≡ None → IsUnknown f sure (statement_needed s) o
    → e ≡ error.Expression o NotInScope → IsFaultHere f (statement s) sure e
operand_fault f s sure o e other found told = subst (IsFaultHere f (statement s) sure) (sym told) (refl, inl (other, found))

pub condition_known : (f : PlainFunction) (sure : List ℕ) (break_if : Option ℕ) (e : ℕ) → break_if ≡ Some e → Known f sure e → All (Known f sure) (needed_at (loop_condition break_if))
condition_known f sure break_if e is held = subst (λ o. All (Known f sure) (needed_at (loop_condition o))) (sym is) (All-cons (Known f sure) e [] held (All-nil (Known f sure)))

pub condition_fault : (f : PlainFunction) (sure : List ℕ) (break_if : Option ℕ) (e : ℕ) → break_if ≡ Some e → ¬ Known f sure e → IsFaultHere f (loop_condition break_if) sure (error.Expression e NotInScope)
condition_fault f sure break_if e is unknown =
    subst (λ o. IsFaultHere f (loop_condition o) sure (error.Expression e NotInScope)) (sym is) (refl, inl (refl, (head_held e [], unknown)))

-- ---- what is emitted

pub new_fault : (f : PlainFunction) (s : PlainStatement) (sure : List ℕ) (e : FunctionError) → IsFaultOfNew f sure (emitted_by s) (introduced s) e → IsFaultHere f (statement s) sure e
new_fault f s sure (error.Expression o source) h = (h.0, inr h.1)
new_fault f s sure (error.ExpressionAlreadyInScope x) h = h
new_fault f s sure _ h = absurd h

no_range : {A : Type 0} (x : Emitted) → None ≡ Some x → A
no_range x is = let y = is in absurd (cc)

-- what denotes an answer comes into scope alone, and nothing is emitted
answer_alone : (s : PlainStatement) (h : ℕ) → None ≡ statement_range s → Some h ≡ statement_result s → (emitted_by s ≡ []) × (introduced s ≡ h ∷ [])
answer_alone (emit first end) h none is = no_range _ none
answer_alone (block b) h none is = let y = is in absurd (cc)
answer_alone (if_ test accept reject) h none is = let y = is in absurd (cc)
answer_alone (switch selector cases) h none is = let y = is in absurd (cc)
answer_alone (loop body continuing break_if) h none is = let y = is in absurd (cc)
answer_alone break h none is = let y = is in absurd (cc)
answer_alone continue h none is = let y = is in absurd (cc)
answer_alone (return value) h none is = let y = is in absurd (cc)
answer_alone kill h none is = let y = is in absurd (cc)
answer_alone (operation a) h none is = (refl, ap option_to_list (sym is))
answer_alone (call function arguments answer) h none is = (refl, ap option_to_list (sym is))

pub answer_new : (f : PlainFunction) (s : PlainStatement) (sure : List ℕ) (h : ℕ) → None ≡ statement_range s → Some h ≡ statement_result s → (e : FunctionError) → IsFaultOfNew f sure [] (h ∷ []) e
    → IsFaultOfNew f sure (emitted_by s) (introduced s) e
answer_new f s sure h none is e wrong =
    let both = answer_alone s h none is in
    subst (λ xs. IsFaultOfNew f sure xs (introduced s) e) (sym both.0) (subst (λ xs. IsFaultOfNew f sure [] xs e) (sym both.1) wrong)

-- ---- kinds of answers

proceed_is : (o : Option PlainExpression) → is_proceed o ≡ true → o ≡ Some (plain RayQueryProceedResult)
proceed_is (Some (plain RayQueryProceedResult)) h = refl
proceed_is _ h = absurd (true≢false (sym h))

is_proceed_of : (o : Option PlainExpression) → o ≡ Some (plain RayQueryProceedResult) → is_proceed o ≡ true
is_proceed_of o is = ap is_proceed is

ballot_is : (o : Option PlainExpression) → is_ballot o ≡ true → o ≡ Some (plain SubgroupBallotResult)
ballot_is (Some (plain SubgroupBallotResult)) h = refl
ballot_is _ h = absurd (true≢false (sym h))

is_ballot_of : (o : Option PlainExpression) → o ≡ Some (plain SubgroupBallotResult) → is_ballot o ≡ true
is_ballot_of o is = ap is_ballot is

-- no statement that answers so, or one whose answer is of the kind
pub data Kind (by : Option ℕ) (test : ℕ → Bool) : Type 0 where
  no_answer : by ≡ None → Kind by test
  of_kind : (e : ℕ) → by ≡ Some e → test e ≡ true → Kind by test

same_answer : (by : Option ℕ) (a e : ℕ) → by ≡ Some a → by ≡ Some e → a ≡ e
same_answer by a e is also = cc (is, also)

proceed_ok : (f : PlainFunction) (s : PlainStatement) → Kind (proceeds_by s) (λ e. is_proceed (slice_get f.expressions e)) → (e : ℕ) → proceeds_by s ≡ Some e → slice_get f.expressions e ≡ Some (plain RayQueryProceedResult)
proceed_ok f s (no_answer none) e is = let x : None ≡ Some e = sym none ∙ is in absurd (cc)
proceed_ok f s (of_kind a at test) e is = proceed_is (slice_get f.expressions e) (subst (λ x. is_proceed (slice_get f.expressions x) ≡ true) (same_answer (proceeds_by s) a e at is) test)

ballot_ok : (f : PlainFunction) (s : PlainStatement) → Kind (ballots_by s) (λ e. is_ballot (slice_get f.expressions e)) → (e : ℕ) → ballots_by s ≡ Some e → slice_get f.expressions e ≡ Some (plain SubgroupBallotResult)
ballot_ok f s (no_answer none) e is = let x : None ≡ Some e = sym none ∙ is in absurd (cc)
ballot_ok f s (of_kind a at test) e is = ballot_is (slice_get f.expressions e) (subst (λ x. is_ballot (slice_get f.expressions x) ≡ true) (same_answer (ballots_by s) a e at is) test)

pub kinds_ok : (f : PlainFunction) (s : PlainStatement) → Kind (proceeds_by s) (λ e. is_proceed (slice_get f.expressions e)) → Kind (ballots_by s) (λ e. is_ballot (slice_get f.expressions e)) → AnswerKindOK f s
kinds_ok f s proceeds ballots = record { proceeds = proceed_ok f s proceeds; ballots = ballot_ok f s ballots }

pub other_proceed : (f : PlainFunction) (s : PlainStatement) (e : ℕ) → proceeds_by s ≡ Some e → is_proceed (slice_get f.expressions e) ≡ false → (sure : List ℕ) → IsFaultHere f (statement s) sure (error.StrictResultMismatch e)
other_proceed f s e is test sure = inl (is, λ same. true≢false (sym (is_proceed_of (slice_get f.expressions e) same) ∙ test))

pub other_ballot : (f : PlainFunction) (s : PlainStatement) (e : ℕ) → ballots_by s ≡ Some e → is_ballot (slice_get f.expressions e) ≡ false → (sure : List ℕ) → IsFaultHere f (statement s) sure (error.StrictResultMismatch e)
other_ballot f s e is test sure = inr (is, λ same. true≢false (sym (is_ballot_of (slice_get f.expressions e) same) ∙ test))
