-- Flags of types that may not be there, and when values are known.
use Rattle.std.proofs.Common.{◌≡◌, ◌≤◌, ◌<◌, ◌↔◌, ◌⊎◌, inl, inr, ◌∙◌, ℕ, zero, suc, List, [], ◌∷◌, Some, IsTrue, true, length, slice_get, refl, sym, ap, subst, arith}
use Rattle.std.proofs.lemmas.Option.{slice_get_within}
use Rattle.module_context.proofs.Absent.{none_there}
use Rattle.ir_types.specs.judged.ExpressionPlain.{PlainExpression}
use Rattle.ir_types.specs.judged.Plain.{PlainType}
use Rattle.typing_layout.specs.judged.Flags.{HasFlag, Argument}
use Rattle.typing_layout.specs.judged.View.{type_tree}
use Rattle.typing_layout.proofs.Latest.{one_kind}
use Rattle.typing_layout.specs.judged.Constness.{AreKinds, IsOfKind, by_itself, by_operands}
use Rattle.typing_layout.specs.declared.constness.ExpressionKind.{ExpressionKind}
use Rattle.typing_layout.specs.declared.constness.ExpressionKind.TheVariants.{Const, Override}

-- of a type that is not there nothing says that functions don't take it
pub taken_past : (types : List PlainType) (h : ℕ) → length types ≤ h → IsTrue true ↔ HasFlag Argument (type_tree types h)
taken_past types h le = ((λ t. subst (HasFlag Argument) (sym (none_there types h le)) refl), (λ has. refl))

stands : {A : Type 0} (xs : List A) (h : ℕ) → h < length xs → (x : A) × (slice_get xs h ≡ Some x)
stands [] h lt = absurd (omega (arith, lt))
stands (x ∷ xs) zero lt = (x, refl)
stands (x ∷ xs) (suc h) lt = stands xs h (omega (arith, lt))

kind_within : (xs : List PlainExpression) (h : ℕ) (k : ExpressionKind) → IsOfKind xs h k → h < length xs
kind_within xs h k (by_itself {e = e} at is) = slice_get_within xs h e at
kind_within xs h k (by_operands {e = e} kind at is each) = slice_get_within xs h e at

-- an expression is of the kind that stands at its place
kind_at : (xs : List PlainExpression) (kinds : List ExpressionKind) (h : ℕ) (k : ExpressionKind) → AreKinds xs kinds → IsOfKind xs h k → slice_get kinds h ≡ Some k
kind_at xs kinds h k known is =
    let less = kind_within xs h k is in
    let there = stands kinds h (omega (arith, less, known.many)) in
    there.1 ∙ ap Some (one_kind xs h there.0 k (known.each h there.0 there.1) is)

abbrev pub KnownEarly : List PlainExpression → ℕ → Type 0
KnownEarly xs h = IsOfKind xs h Const ⊎ IsOfKind xs h Override

pub known_early : (xs : List PlainExpression) (kinds : List ExpressionKind) (h : ℕ) → AreKinds xs kinds → ((slice_get kinds h ≡ Some Const) ⊎ (slice_get kinds h ≡ Some Override)) ↔ KnownEarly xs h
known_early xs kinds h known = (
  (λ at. elim at [ inl const ↦ inl (known.each h Const const) | inr later ↦ inr (known.each h Override later) ]),
  (λ is. elim is [ inl const ↦ inl (kind_at xs kinds h Const known const) | inr later ↦ inr (kind_at xs kinds h Override known later) ]),
)

pub unknown_past : (xs : List PlainExpression) (h : ℕ) → length xs ≤ h → KnownEarly xs h → ⊥
unknown_past xs h le is = elim is [
  | inl const ↦ (let less = kind_within xs h Const const in absurd (omega (arith, le, less)))
  | inr later ↦ (let less = kind_within xs h Override later in absurd (omega (arith, le, less)))
]
