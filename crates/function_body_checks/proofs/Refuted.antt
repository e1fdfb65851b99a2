-- Each fault of scope refutes a part of what is required.
use Rattle.std.proofs.Common.{ℕ, List, inl, inr, Option, Some, Contains, option_to_list, refl, sym, subst}
use Rattle.typing_errors.specs.declared.error.FunctionError.{FunctionError}
use Rattle.typing_errors.specs.declared.error.FunctionError.TheVariants as error
use Rattle.typing_errors.specs.declared.atomics.AtomicError.{AtomicError}
use Rattle.typing_errors.specs.declared.atomics.AtomicError.TheVariants as atomic_error
use Rattle.typing_errors.specs.declared.calls.CallError.{CallError}
use Rattle.typing_errors.specs.declared.calls.CallError.TheVariants as call_error
use Rattle.ir_blocks.specs.judged.Places.{Place, OccursAt}
use Rattle.ir_blocks.specs.judged.Plain.{call}
use Rattle.ir_flags.specs.Sets.{Has}
use Rattle.ir_flags.specs.declared.settings.ValidationFlags.{ValidationFlags}
use Rattle.ir_flags.specs.declared.settings.TheConstants.ValidationFlags.{EXPRESSIONS}
use Rattle.ir_items.specs.judged.Plain.{PlainFunction}
use Rattle.function_body_checks.proofs.Lists.{contains_at}
use Rattle.function_body_checks.specs.Faults.{IsPopulated, IsCallErrorAt, IsAtomicErrorIn, IsScopeFaultAt}
use Rattle.function_body_checks.specs.Laws.{FaultsRefute}
use Rattle.spec_statements.specs.found.Answered.{EachOnce}
use Rattle.spec_statements.specs.judged.Results.{AnswersBy}
use Rattle.spec_statements.specs.judged.Scope.{ScopeOK}
use Rattle.spec_statements.specs.judged.Tables.{checked_at, introduced_at}

module _ (flags : ValidationFlags) (f : PlainFunction) (scope : ScopeOK f) (once : EachOnce f.body) (asked : (p : Place) (x : ℕ) → AnswersBy f.body p x → Has flags.0 EXPRESSIONS.0) where
  again : (p : Place) (x : ℕ) → AnswersBy f.body p x → IsPopulated flags f p x → ⊥
  again p x by (inl unasked) = unasked (asked p x by)
  again p x by (inr other) = other.2 (once other.0 p x other.1 by)

  in_call : (e : CallError) (p : Place) (function : ℕ) (arguments : List ℕ) (answer : Option ℕ) → OccursAt f.body p (call function arguments answer) → IsCallErrorAt flags f p arguments answer e → ⊥
  in_call (call_error.Argument place source) p function arguments answer stands h =
      h.1.2 (scope.in_scope p h.1.0 (subst (λ spot. Contains (checked_at spot) h.1.0) (sym stands) (contains_at arguments place h.1.0 h.1.1)))
  in_call (call_error.ResultAlreadyInScope x) p function arguments answer stands h =
      scope.fresh p x (subst (λ spot. Contains (introduced_at spot) x) (sym stands) (subst (λ o. Contains (option_to_list o) x) (sym h.0) (contains_at (option_to_list (Some x)) 0 x refl))) h.1
  in_call (call_error.ResultAlreadyPopulated x) p function arguments answer stands h = again p x (call function arguments answer, stands, h.0) h.1
  in_call _ p function arguments answer stands h = absurd h

  in_atomic : (e : AtomicError) (p : Place) → IsAtomicErrorIn flags f p e → ⊥
  in_atomic (atomic_error.ResultAlreadyPopulated x) p h = again p x h.answers h.again
  in_atomic _ p h = absurd h

  refuted : (e : FunctionError) (p : Place) → IsScopeFaultAt flags f e p → ⊥
  refuted (error.Expression x source) p h = h.1.unknown (scope.in_scope p x h.1.used)
  refuted (error.ExpressionAlreadyInScope x) p h = scope.fresh p x h.brought h.known
  refuted (error.InvalidCall function e) p h = in_call e p function h.arguments h.answer h.stands h.wrong
  refuted (error.InvalidAtomic e) p h = in_atomic e p h
  refuted _ p h = absurd h

pub faults_refute_lem : FaultsRefute
faults_refute_lem flags f e wrong scope once asked = refuted flags f scope once asked e wrong.0 wrong.1
