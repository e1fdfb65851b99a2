-- Expressions that denote answers, and those of a range.
use Rattle.std.proofs.Common.{◌≡◌, refl, ℕ, zero, suc, ◌+◌, ◌-◌, ◌<◌, ◌≤◌, min, Bool, true, false, List, Option, None, Some, IfNone, IfSome, length, slice_get, get_or, sym, ap, subst, inl, inr, true≢false, arith}
use Rattle.std.specs.List.{range_with_len}
use Rattle.std.proofs.lemmas.Bool.{cases_eq, cases_lt}
use Rattle.std.proofs.lemmas.List.Elements.{All-from_get_or}
use Rattle.std.proofs.lemmas.List.FromFn.{length-range_with_len, get_or-range_with_len}
use Rattle.std.proofs.lemmas.Option.{slice_get_past}
use Rattle.ir_arena.specs.judged.Handles.{handles_between}
use Rattle.ir_sets.specs.Bits.{IsFirst, NoneBetween}
use Rattle.ir_sets.specs.Next.{AreNext}
use Rattle.ir_types.specs.judged.ExpressionPlain.{PlainExpression, compose, plain}
use Rattle.ir_types.specs.declared.expressions.Expression.{Expression}
use Rattle.ir_types.specs.declared.expressions.Expression.TheVariants as x
use Rattle.typing_rules.specs.judged.Laws.{IsAmong}
use Rattle.spec_statements.specs.judged.Emits.{EmitOK, IsEmittable}
use Rattle.function_statement_checks.specs.Emits.{is_answer_itself, is_answer_there, is_answer_at, AreAnswers, IsAnswerOf}

computed_here : (e : Expression) → is_answer_itself e ≡ false → IsEmittable (plain e)
computed_here (x.CallResult function) no_ = absurd (true≢false no_)
computed_here (x.AtomicResult type comparison) no_ = absurd (true≢false no_)
computed_here (x.WorkGroupUniformLoadResult type) no_ = absurd (true≢false no_)
computed_here x.RayQueryProceedResult no_ = absurd (true≢false no_)
computed_here x.SubgroupBallotResult no_ = absurd (true≢false no_)
computed_here (x.SubgroupOperationResult type) no_ = absurd (true≢false no_)
computed_here _ no_ = refl

answered_elsewhere : (e : Expression) → is_answer_itself e ≡ true → IsEmittable (plain e) → ⊥
answered_elsewhere (x.CallResult function) yes_ here = true≢false (sym here)
answered_elsewhere (x.AtomicResult type comparison) yes_ here = true≢false (sym here)
answered_elsewhere (x.WorkGroupUniformLoadResult type) yes_ here = true≢false (sym here)
answered_elsewhere x.RayQueryProceedResult yes_ here = true≢false (sym here)
answered_elsewhere x.SubgroupBallotResult yes_ here = true≢false (sym here)
answered_elsewhere (x.SubgroupOperationResult type) yes_ here = true≢false (sym here)
answered_elsewhere _ yes_ here = true≢false (sym yes_)

emittable : (o : Option PlainExpression) → is_answer_there o ≡ false → IfSome o IsEmittable
emittable None no_ = tt
emittable (Some (compose type components)) no_ = refl
emittable (Some (plain e)) no_ = computed_here e no_

not_emittable : (o : Option PlainExpression) → is_answer_there o ≡ true → IfSome o IsEmittable → ⊥
not_emittable None yes_ here = true≢false (sym yes_)
not_emittable (Some (compose type components)) yes_ here = true≢false (sym yes_)
not_emittable (Some (plain e)) yes_ here = answered_elsewhere e yes_ here

among_range : (a n e : ℕ) → a ≤ e → e < a + n → IsAmong e (range_with_len a n)
among_range a zero e reached within = absurd (omega arith)
among_range a (suc n) e reached within =
    elim (cases_eq a e) [ inl same ↦ inl same | inr other ↦ inr (among_range (a + 1) n e (omega arith) (omega arith)) ]

module _ (es : List PlainExpression) (next : List ℕ) (are : AreAnswers es next) (range : ℕ × ℕ) where
  counted : AreNext (is_answer_at es) (length next) next
  counted = subst (λ n. AreNext (is_answer_at es) n next) (sym are.len) are

  none_answers : NoneBetween (is_answer_at es) range.0 (min range.1 (length next)) → EmitOK es range.0 range.1
  none_answers none =
      All-from_get_or (λ e. IfSome (slice_get es e) IsEmittable) (handles_between range) 0
      (λ k inside.
      let at : k < range.1 - range.0 = omega (arith, inside, length-range_with_len range.0 (range.1 - range.0)) in
      let is = get_or-range_with_len range.0 (range.1 - range.0) k 0 at in
      let e : ℕ = get_or (handles_between range) k 0 in
      elim (cases_lt e (length next)) [
        | inl there ↦ emittable (slice_get es e) (none e (omega (arith, is)) (omega (arith, is)))
        | inr past ↦ emittable (slice_get es e) (ap is_answer_there (slice_get_past es e (omega (arith, are.len))))
      ])

  pub answer_is : (found : Option ℕ) → IfNone found ((test : ℕ → Bool) → AreNext test (length next) next → NoneBetween test range.0 (min range.1 (length next)))
      → IfSome found (λ n. (test : ℕ → Bool) → AreNext test (length next) next → IsFirst test range.0 (min range.1 (length next)) n) → IsAnswerOf es range found
  answer_is None none some = none_answers (none (is_answer_at es) counted)
  answer_is (Some n) none some =
      let first = some (is_answer_at es) counted in
      let reached : range.0 ≤ n = first.reached in
      let low : n < min range.1 (length next) = first.within in
      (among_range range.0 (range.1 - range.0) n reached (omega arith), not_emittable (slice_get es n) first.passes)

abbrev NoneOf : (next : List ℕ) (first end : ℕ) → Option ℕ → Type 0
NoneOf next first end found = IfNone found ((test : ℕ → Bool) → AreNext test (length next) next → NoneBetween test first (min end (length next)))

abbrev FirstOf : (next : List ℕ) (first end : ℕ) → Option ℕ → Type 0
FirstOf next first end found = IfSome found (λ n. (test : ℕ → Bool) → AreNext test (length next) next → IsFirst test first (min end (length next)) n)

-- the same where the ends of the range are reported apart
pub answer_between : (es : List PlainExpression) (next : List ℕ) → AreAnswers es next → (range : ℕ × ℕ) (first end : ℕ) (found : Option ℕ) → first ≡ range.0 → end ≡ range.1
    → NoneOf next first end found → FirstOf next first end found → IsAnswerOf es range found
answer_between es next are range first end found begins ends none some =
    answer_is es next are range found
    (subst (λ f. NoneOf next f range.1 found) begins (subst (λ e. NoneOf next first e found) ends none))
    (subst (λ f. FirstOf next f range.1 found) begins (subst (λ e. FirstOf next first e found) ends some))
