-- Each fault of strict scope refutes a part of what is required.
use Rattle.std.proofs.Common.{ℕ, ⊎_elim, Contains, sym, subst}
use Rattle.typing_errors.specs.declared.error.FunctionError.{FunctionError}
use Rattle.typing_errors.specs.declared.error.FunctionError.TheVariants as error
use Rattle.typing_errors.specs.declared.calls.CallError.{CallError}
use Rattle.typing_errors.specs.declared.calls.CallError.TheVariants as call_error
use Rattle.ir_blocks.specs.judged.Places.{Place}
use Rattle.ir_items.specs.judged.Plain.{PlainFunction}
use Rattle.spec_statements.specs.judged.Strict.{StrictOK, needed_at}
use Rattle.function_body_checks.proofs.Lists.{contains_at}
use Rattle.function_strict_scope.specs.Faults.{IsStrictFaultAt, IsStrictCallError, IsOfOtherKind, of_proceed, of_ballot}
use Rattle.function_strict_scope.specs.Laws.{StrictFaultsRefute}

module _ (f : PlainFunction) (strict : StrictOK f) where
  of_other_kind : (p : Place) (e : ℕ) → IsOfOtherKind f p e → ⊥
  of_other_kind p e (of_proceed query stands other) = other (strict.proceeds p query e stands)
  of_other_kind p e (of_ballot predicate stands other) = other (strict.ballots p e predicate stands)

  in_call : (p : Place) (g : ℕ) (e : CallError) → IsStrictCallError f p g e → ⊥
  in_call p g (call_error.Argument place source) h =
      h.1.unknown (strict.used p h.1.passed (subst (λ spot. Contains (needed_at spot) h.1.passed) (sym h.1.stands) (contains_at h.1.arguments place h.1.passed h.1.is)))
  in_call p g _ h = absurd h

  refuted : (e : FunctionError) (p : Place) → IsStrictFaultAt f e p → ⊥
  refuted (error.Expression o source) p h = ⊎_elim
      (λ used. used.unknown (strict.used p o used.used))
      (λ early. ⊎_elim early.later early.unknown (strict.emitted p early.first early.end early.stands early.expression early.from early.below early.form early.is o early.operand)) h.1
  refuted (error.InvalidCall g e) p h = in_call p g e h
  refuted (error.StrictResultMismatch e) p h = of_other_kind p e h
  refuted _ p h = absurd h

pub strict_faults_refute_lem : StrictFaultsRefute
strict_faults_refute_lem f e wrong strict = refuted f strict e wrong.0 wrong.1
