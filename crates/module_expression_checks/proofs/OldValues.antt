-- The old value of an exchange.
use Rattle.std.proofs.Common.{◌≡◌, ◌↔◌, List, [], ◌∷◌, Option, Some, None, Bool, false, true≢false, IsTrue, codes, subst, refl, sym, ap}
use Rattle.std.proofs.lemmas.Option.{same_Some}
use Rattle.ir_types.specs.judged.Plain.{PlainInner, PlainMember, PlainType, struct, plain}
use Rattle.typing_forms.specs.judged.Forms.{form_of_type}
use Rattle.typing_forms.specs.declared.form.Form.{Form}
use Rattle.spec_statements.specs.judged.ExpressionResults.{AreExchanged, IsExchangeOf}
use Rattle.spec_statements.specs.judged.Shapes.{IsMadeOf, IsScalarShape, IsBool}

-- ---- two members

pub found : (types : List PlainType) (old exchanged : PlainMember) → old.name ≡ Some (codes "old_value") → exchanged.name ≡ Some (codes "exchanged")
    → IsMadeOf IsScalarShape IsBool (form_of_type types exchanged.ty) → (of : Form) → (Some (form_of_type types old.ty) ≡ Some of) ↔ AreExchanged (λ x. x ≡ of) types old exchanged
found types old exchanged first second truth of =
    (λ e. record { old_name = first; old_type = same_Some _ _ e; exchanged_name = second; exchanged_type = truth }, λ h. ap Some h.old_type)

pub missing : (types : List PlainType) (old exchanged : PlainMember)
    → ((of : Form) → AreExchanged (λ x. x ≡ of) types old exchanged → ⊥) → (of : Form) → (None ≡ Some of) ↔ AreExchanged (λ x. x ≡ of) types old exchanged
missing types old exchanged never of = (λ e. cc, λ h. absurd (never of h))

-- ---- any condition on the old value

-- what holds of each possible form holds under every condition
pub by_test : (IsOld : Form → Type 0) (types : List PlainType) (i : Option PlainInner) (old : Form) (test : Bool)
    → ((of : Form) → (Some old ≡ Some of) ↔ IsExchangeOf (λ x. x ≡ of) types i) → IsTrue test ↔ IsOld old → IsTrue test ↔ IsExchangeOf IsOld types i
by_test IsOld types None old test is by = absurd ((is old).0 refl)
by_test IsOld types (Some (plain i)) old test is by = absurd ((is old).0 refl)
by_test IsOld types (Some (struct [] span)) old test is by = absurd ((is old).0 refl)
by_test IsOld types (Some (struct (a ∷ []) span)) old test is by = absurd ((is old).0 refl)
by_test IsOld types (Some (struct (a ∷ b ∷ []) span)) old test is by =
    let h : AreExchanged (λ x. x ≡ old) types a b = (is old).0 refl in (
      λ t. record { old_name = h.old_name; old_type = subst IsOld (sym h.old_type) (by.0 t); exchanged_name = h.exchanged_name; exchanged_type = h.exchanged_type },
      λ k. by.1 (subst IsOld h.old_type k.old_type),
    )
by_test IsOld types (Some (struct (a ∷ b ∷ c ∷ rest) span)) old test is by = absurd ((is old).0 refl)

pub by_none : (IsOld : Form → Type 0) (types : List PlainType) (i : Option PlainInner)
    → ((of : Form) → (None ≡ Some of) ↔ IsExchangeOf (λ x. x ≡ of) types i) → IsTrue false ↔ IsExchangeOf IsOld types i
by_none IsOld types None is = (λ t. absurd (true≢false (sym t)), λ h. absurd h)
by_none IsOld types (Some (plain i)) is = (λ t. absurd (true≢false (sym t)), λ h. absurd h)
by_none IsOld types (Some (struct [] span)) is = (λ t. absurd (true≢false (sym t)), λ h. absurd h)
by_none IsOld types (Some (struct (a ∷ []) span)) is = (λ t. absurd (true≢false (sym t)), λ h. absurd h)
by_none IsOld types (Some (struct (a ∷ b ∷ []) span)) is = (
  λ t. absurd (true≢false (sym t)),
  λ h. let e = (is (form_of_type types a.ty)).1 (record { old_name = h.old_name; old_type = refl; exchanged_name = h.exchanged_name; exchanged_type = h.exchanged_type }) in cc,
)
by_none IsOld types (Some (struct (a ∷ b ∷ c ∷ rest) span)) is = (λ t. absurd (true≢false (sym t)), λ h. absurd h)
