-- Which expressions are const-expressions.
use Rattle.std.proofs.Common.{◌≡◌, ◌<◌, ◌≤◌, ◌↔◌, ℕ, zero, suc, List, [], ◌∷◌, Some, IsTrue, nat_lt, length, slice_get, refl, ◌∙◌, ap, arith, rules, tests}
use Rattle.ir_types.specs.judged.ExpressionPlain.{PlainExpression}
use Rattle.typing_layout.proofs.Latest.{one_kind}
use Rattle.typing_layout.specs.judged.Constness.{AreKinds, IsOfKind, by_itself, by_operands}
use Rattle.typing_layout.specs.declared.constness.ExpressionKind.{ExpressionKind}
use Rattle.typing_layout.specs.declared.constness.ExpressionKind.TheVariants.{Const}

within : {A : Type 0} (xs : List A) (h : ℕ) (x : A) → slice_get xs h ≡ Some x → h < length xs
within [] h x e = cc (e)
within (y ∷ ys) zero x e = omega arith
within (y ∷ ys) (suc h) x e = let less = within ys h x e in omega (arith, less)

-- the element at an index, if the list is long enough
stands : {A : Type 0} (xs : List A) (h : ℕ) → h < length xs → (x : A) × (slice_get xs h ≡ Some x)
stands [] h lt = absurd (omega (arith, lt))
stands (x ∷ xs) zero lt = (x, refl)
stands (x ∷ xs) (suc h) lt = stands xs h (omega (arith, lt))

kind_within : (xs : List PlainExpression) (h : ℕ) (k : ExpressionKind) → IsOfKind xs h k → h < length xs
kind_within xs h k (by_itself {e = e} at is) = within xs h e at
kind_within xs h k (by_operands {e = e} kind at is each) = within xs h e at

pub constant_at : (xs : List PlainExpression) (kinds : List ExpressionKind) (h : ℕ) → AreKinds xs kinds → (slice_get kinds h ≡ Some Const) ↔ IsOfKind xs h Const
constant_at xs kinds h known = (
  known.each h Const,
  λ is.
      let less = kind_within xs h Const is in
      let there = stands kinds h (omega (arith, less, known.many)) in
      there.1 ∙ ap Some (one_kind xs h there.0 Const (known.each h there.0 there.1) is),
)

pub none_past : (xs : List PlainExpression) (h : ℕ) → length xs ≤ h → IsOfKind xs h Const → ⊥
none_past xs h le is = let less = kind_within xs h Const is in absurd (omega (arith, le, less))

-- an index out of bounds satisfies no requirement of an element
pub past_the_last : (index many : ℕ) (T : Type 0) → many ≤ index → (T → ⊥) → IsTrue (nat_lt index many) ↔ T
past_the_last index many T le none = (λ t. let lt : index < many = search (rules, tests, t) in absurd (omega (arith, lt, le)), λ k. absurd (none k))
