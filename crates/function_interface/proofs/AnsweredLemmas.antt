-- What denotes answers, one expression after another.
use Rattle.std.proofs.Common.{◌≡◌, ◌↔◌, ◌⊎◌, inl, inr, ℕ, ◌+◌, ◌<◌, ◌≤◌, List, Some, Bool, true, false, IsTrue, true≢false, length, slice_get, sym, subst, ◌∙◌, arith}
use Rattle.std.proofs.lemmas.Option.{same_Some, slice_get_within}
use Rattle.function_interface.proofs.Below.{below_or_same}
use Rattle.function_interface.specs.Answered.{Stands, IsAnswered, AllAnswered, AnsweredBelow, IsUnanswered}
use Rattle.ir_types.specs.judged.ExpressionPlain.{PlainExpression, plain}
use Rattle.ir_types.specs.declared.expressions.Expression.TheVariants as x
use Rattle.spec_statements.specs.judged.Results.{DenotesResult, of_call, of_atomic}

occurs_at : (xs : List PlainExpression) (e : ℕ) (x : PlainExpression) → slice_get xs e ≡ Some x → DenotesResult xs e → Stands x
occurs_at xs e x at (of_call is) = subst Stands (same_Some _ x (sym is ∙ at)) tt
occurs_at xs e x at (of_atomic is) = subst Stands (same_Some _ x (sym is ∙ at)) tt

there : (xs : List PlainExpression) (e : ℕ) → DenotesResult xs e → e < length xs
there xs e (of_call is) = slice_get_within xs e _ is
there xs e (of_atomic is) = slice_get_within xs e _ is

at_stands : (xs : List PlainExpression) (e : ℕ) (x : PlainExpression) → slice_get xs e ≡ Some x → Stands x → DenotesResult xs e
at_stands xs e (plain (x.CallResult function)) at s = of_call at
at_stands xs e (plain (x.AtomicResult type comparison)) at s = of_atomic at
at_stands xs e _ at s = absurd s

stands_or_not : (x : PlainExpression) → Stands x ⊎ ¬ Stands x
stands_or_not (plain (x.CallResult function)) = inl tt
stands_or_not (plain (x.AtomicResult type comparison)) = inl tt
stands_or_not _ = inr (λ s. s)

pub one_unanswered : (xs : List PlainExpression) (answered : List Bool) (e : ℕ) (x : PlainExpression) (b : Bool) → slice_get xs e ≡ Some x → IsTrue b ↔ (Stands x → slice_get answered e ≡ Some true)
    → b ≡ false → AnsweredBelow xs answered e → IsUnanswered xs answered e
one_unanswered xs answered e x b at test no_answer before = elim (stands_or_not x) [
  | inl stands ↦ record {
    stands = at_stands xs e x at stands;
    unanswered = λ is. true≢false (sym (test.1 (λ s. is)) ∙ no_answer);
    before = before;
  }
  | inr none ↦ absurd (true≢false (sym (test.1 (λ s. absurd (none s))) ∙ no_answer))
]

pub answered_none : (xs : List PlainExpression) (answered : List Bool) → AnsweredBelow xs answered 0
answered_none xs answered = record { each = λ e lt. absurd (omega (arith, lt)) }

pub answered_more : (xs : List PlainExpression) (answered : List Bool) (end : ℕ) (x : PlainExpression) → AnsweredBelow xs answered end → slice_get xs end ≡ Some x
    → (Stands x → slice_get answered end ≡ Some true) → AnsweredBelow xs answered (end + 1)
answered_more xs answered end x before at is = record {
  each = λ e lt. elim (below_or_same e end lt) [
    | inl less ↦ before.each e less
    | inr same ↦ subst (IsAnswered xs answered) (sym same) (λ stands. is (occurs_at xs end x at stands))
  ];
}

pub answered_all : (xs : List PlainExpression) (answered : List Bool) (end : ℕ) → length xs ≤ end → AnsweredBelow xs answered end → AllAnswered xs answered
answered_all xs answered end le before e stands = before.each e (let lt = there xs e stands in omega (arith, lt, le)) stands
