-- Uses of variables that are noted, one after the other.
use Rattle.std.proofs.Common.{◌≡◌, ◌⊎◌, ◌↔◌, inl, inr, ◌||◌, ℕ, Bool, true, false, List, [], ◌∷◌, ◌++◌, Option, Some, None, take, slice_get, refl, sym, ap, subst, suc, zero, ◌+◌, ◌∙◌, arith}
use Rattle.std.specs.Int.{bit_at}
use Rattle.std.proofs.lemmas.Option.{same_Some}
use Rattle.spec_expressions.specs.declared.global_use.GlobalUse.{GlobalUse}
use Rattle.typing_infos.specs.Infos.{NotesUse}

-- ---- one of them

one_use : (h : ℕ) (kinds : GlobalUse) (g k : ℕ) (u : ℕ × GlobalUse) → (h, kinds) ≡ u → u.0 ≡ g → bit_at u.1.0 k ≡ 1 → (Some h ≡ Some g) × (bit_at kinds.0 k ≡ 1)
one_use h kinds g k u same at bit = (
  (let e : h ≡ u.0 = ap (λ (v : ℕ × GlobalUse). v.0) same in ap Some (cc (e, at))),
  subst (λ (v : ℕ × GlobalUse). bit_at v.1.0 k ≡ 1) (sym same) bit,
)

pub notes_one : (h : ℕ) (kinds : GlobalUse) (g k : ℕ) → NotesUse ((h, kinds) ∷ []) g k ↔ ((Some h ≡ Some g) × (bit_at kinds.0 k ≡ 1))
notes_one h kinds g k = (
  λ n. elim n.1 [
    | inl same ↦ one_use h kinds g k n.0 same n.2 n.3
    | inr none ↦ elim none [ ]
  ],
  λ p. ((h, kinds), (inl refl), same_Some _ _ p.0, p.1),
)

-- ---- relations with one more

-- one of these uses is noted beside what was before
pub noted_one : (o : Option ℕ) (h : ℕ) (kinds : GlobalUse) (g k : ℕ) {A B : Type 0} → o ≡ Some h → B ↔ (A ⊎ NotesUse ((h, kinds) ∷ []) g k) → B ↔ (A ⊎ ((o ≡ Some g) × (bit_at kinds.0 k ≡ 1)))
noted_one o h kinds g k at f = let n = notes_one h kinds g k in (
  λ b. elim (f.0 b) [ inl a ↦ inl a | inr u ↦ inr (let p = n.0 u in (at ∙ p.0, p.1)) ],
  λ s. f.1 (elim s [ inl a ↦ inl a | inr p ↦ inr (n.1 (sym at ∙ p.0, p.1)) ]),
)

-- nothing is
pub noted_none : (o : Option ℕ) (kinds : GlobalUse) (g k : ℕ) {A : Type 0} → o ≡ None → A ↔ (A ⊎ ((o ≡ Some g) × (bit_at kinds.0 k ≡ 1)))
noted_none o kinds g k none = (
  λ a. inl a,
  λ s. elim s [ inl a ↦ a | inr p ↦ (let e : None ≡ Some g = sym none ∙ p.0 in cc (e)) ],
)

pub noted_nothing : (g k : ℕ) {A B : Type 0} → B ↔ (A ⊎ NotesUse [] g k) → B ↔ A
noted_nothing g k f = (
  λ b. elim (f.0 b) [ inl a ↦ a | inr u ↦ elim u.1 [ ] ],
  λ a. f.1 (inl a),
)

-- one after the other
pub put_both : {A B C P M : Type 0} → B ↔ (A ⊎ P) → C ↔ (B ⊎ M) → C ↔ (A ⊎ (P ⊎ M))
put_both f g = (
  λ c. elim (g.0 c) [
    | inl b ↦ elim (f.0 b) [ inl a ↦ inl a | inr p ↦ inr (inl p) ]
    | inr m ↦ inr (inr m)
  ],
  λ o. elim o [
    | inl a ↦ g.1 (inl (f.1 (inl a)))
    | inr more ↦ elim more [ inl p ↦ g.1 (inl (f.1 (inr p))) | inr m ↦ g.1 (inr m) ]
  ],
)

pub or_false : (b : Bool) → (b || false) ≡ b
or_false true = refl
or_false false = refl

-- ---- all of them

next_taken : {A : Type 0} (xs : List A) (i : ℕ) (x : A) → slice_get xs i ≡ Some x → take (suc i) xs ≡ take i xs ++ x ∷ []
next_taken [] i x at = absurd (let h = at in cc)
next_taken (y ∷ ys) zero x at = ap (λ z. z ∷ []) (same_Some _ _ at)
next_taken (y ∷ ys) (suc i) x at = ap (λ zs. y ∷ zs) (next_taken ys i x at)

pub one_more_taken : {A : Type 0} (xs : List A) (i : ℕ) (x : A) → slice_get xs i ≡ Some x → take (i + 1) xs ≡ take i xs ++ x ∷ []
one_more_taken xs i x at = subst (λ n. take n xs ≡ take i xs ++ x ∷ []) (let e : suc i ≡ i + 1 = omega arith in e) (next_taken xs i x at)
