-- The initializer of a variable.
use Rattle.std.proofs.Common.{not, ◌≡◌, ◌↔◌, ◌⊎◌, inl, inr, ◌<◌, ℕ, List, Bool, true, false, length, get_or, Some, IsTrue, refl, sym, subst, slice_get}
use Rattle.std.proofs.lemmas.Option.{slice_get-get_or}
use Rattle.ir_items.specs.judged.Plain.{PlainModule}
use Rattle.module_constants.specs.Known.{AreTyped}
use Rattle.spec_expressions.specs.judged.Overrides.{IsKnownByOverrides}
use Rattle.spec_expressions.proofs.TypingLaws.{one_type}
use Rattle.spec_expressions.specs.judged.Context.{outside}
use Rattle.spec_expressions.specs.judged.Typing.{HasGlobalType}
use Rattle.typing_forms.specs.declared.form.Form.{Form}
use Rattle.typing_layout.proofs.Latest.{one_kind}
use Rattle.typing_layout.specs.judged.Constness.{AreKinds, IsOfKind}
use Rattle.typing_layout.specs.declared.constness.ExpressionKind.{ExpressionKind}
use Rattle.typing_layout.specs.declared.constness.ExpressionKind.TheVariants.{Const, Override, Runtime}

-- the test of the tracker
abbrev Tests : List ExpressionKind → ℕ → Bool → Type 0
Tests kinds init b = IsTrue b ↔ ((slice_get kinds init ≡ Some Const) ⊎ (slice_get kinds init ≡ Some Override))

module _ (m : PlainModule) (kinds : List ExpressionKind) (are : AreKinds m.global_expressions kinds) (init : ℕ) (b : Bool) (test : Tests kinds init b) where
  known : b ≡ true → IsKnownByOverrides m init
  known is = elim (test.0 is) [
    | inl e ↦ inl (are.each init Const e)
    | inr e ↦ inr (are.each init Override e)
  ]

  not_both : IsKnownByOverrides m init → IsOfKind m.global_expressions init Runtime → ⊥
  not_both (inl k) r = let e = one_kind m.global_expressions init Runtime Const r k in cc
  not_both (inr k) r = let e = one_kind m.global_expressions init Runtime Override r k in cc

  unknown_at : (k : ExpressionKind) → slice_get kinds init ≡ Some k → b ≡ false → IsKnownByOverrides m init → ⊥
  unknown_at Const at is h = let t = test.1 (inl at) in cc
  unknown_at Override at is h = let t = test.1 (inr at) in cc
  unknown_at Runtime at is h = not_both h (are.each init Runtime at)

  unknown : (other : ExpressionKind) → init < length kinds → b ≡ false → IsKnownByOverrides m init → ⊥
  unknown other lt is h = unknown_at (get_or kinds init other) (slice_get-get_or kinds init other lt) is h

  by_test : (other : ExpressionKind) → init < length kinds → (t : Bool) → b ≡ t → IsKnownByOverrides m init → b ≡ true
  by_test other lt true is h = is
  by_test other lt false is h = absurd (unknown other lt is h)

  -- the tracker returns whether the initializer is a const- or override-expression
  pub known_by : (other : ExpressionKind) → init < length kinds → IsTrue b ↔ IsKnownByOverrides m init
  known_by other lt = (known, λ h. by_test other lt b refl h)

module _ (m : PlainModule) (forms : List Form) (are : AreTyped m forms) (init k : ℕ) (other : Form) (lt : init < length forms) (index : k ≡ init) where
  pub typed_at : HasGlobalType m init (get_or forms k other)
  typed_at = subst (λ n. HasGlobalType m init (get_or forms n other)) (sym index) (are.each init (get_or forms init other) (slice_get-get_or forms init other lt))

pub one_form : (m : PlainModule) (e : ℕ) (s t : Form) → HasGlobalType m e s → HasGlobalType m e t → s ≡ t
one_form m e s t = one_type (outside m) m.global_expressions e s t

pub is_and_is_not : (b : Bool) → b ≡ true → not b ≡ true → ⊥
is_and_is_not true is opposite = let x = opposite in cc
is_and_is_not false is opposite = let x = is in cc
