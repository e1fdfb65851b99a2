-- The bits of uses after other uses are added.
use Rattle.std.proofs.Common.{◌≡◌, ◌≢◌, ◌⊎◌, ℕ, suc, zero, ◌+◌, ◌<◌, ◌≤◌, max, Option, Some, None, Bool, true, false, List, [], ◌∷◌, length, refl, sym, ap, ◌∙◌, subst, inl, inr, ⊎_elim, arith, slice_get, slice_set, get_or, bit_or, bit_and, length-set}
use Rattle.std.specs.Prelude.{◌↔◌, All, slice_index_or}
use Rattle.std.specs.Int.{bit_at}
use Rattle.std.specs.Int.Bits.{and_zero_r}
use Rattle.std.proofs.lemmas.Bool.{cases_eq, cases_lt}
use Rattle.std.proofs.lemmas.List.{get_or-set_same, get_or-set_other, get_or_past}
use Rattle.std.proofs.lemmas.List.Elements.{All-head, All-tail}
use Rattle.std.proofs.lemmas.Nat.Bits.{bit_at_or, bit_at-lt, bit_at-zero}
use Rattle.std.proofs.lemmas.Option.{same_Some}
use Rattle.spec_expressions.specs.declared.global_use.GlobalUse.{GlobalUse}
use Rattle.spec_expressions.specs.judged.Summaries.{no_use, HasUseBit}
use Rattle.typing_infos.specs.Infos.{joined_use, marked, with_uses, NotesUse, Dominates}
use Rattle.ir_flags.specs.Sets.{Has}

max_one : (a b : ℕ) → a < 2 → b < 2 → max a b ≡ 1 → (a ≡ 1) ⊎ (b ≡ 1)
max_one a b x y e = ⊎_elim (λ (l : a < 1). inr (omega arith)) (λ (l : 1 ≤ a). inl (omega arith)) (cases_lt a 1)

max_left : (a b : ℕ) → a < 2 → b < 2 → a ≡ 1 → max a b ≡ 1
max_left a b x y e = omega arith

max_right : (a b : ℕ) → a < 2 → b < 2 → b ≡ 1 → max a b ≡ 1
max_right a b x y e = omega arith

pub or_bits : (a b k : ℕ) → (bit_at (bit_or a b) k ≡ 1) ↔ ((bit_at a k ≡ 1) ⊎ (bit_at b k ≡ 1))
or_bits a b k = (
  λ e. max_one (bit_at a k) (bit_at b k) (bit_at-lt a k) (bit_at-lt b k) (sym (bit_at_or a b k) ∙ e),
  λ s. bit_at_or a b k ∙ ⊎_elim (max_left (bit_at a k) (bit_at b k) (bit_at-lt a k) (bit_at-lt b k)) (max_right (bit_at a k) (bit_at b k) (bit_at-lt a k) (bit_at-lt b k)) s,
)

pub zero_has_none : (k : ℕ) → bit_at 0 k ≡ 1 → ⊥
zero_has_none k e = let z : 0 ≡ 1 = sym (bit_at-zero k) ∙ e in omega (arith, z)

-- ---- one more use

pub marked_length : (uses : List GlobalUse) (at : Option ℕ) (kind : ℕ) → length (marked uses at kind) ≡ length uses
marked_length uses None kind = refl
marked_length uses (Some g) kind = length-set uses g _

pub marked_same : (uses : List GlobalUse) (g kind : ℕ) → g < length uses → slice_index_or (marked uses (Some g) kind) g no_use ≡ joined_use (slice_index_or uses g no_use) kind
marked_same uses g kind lt = get_or-set_same uses g (joined_use (slice_index_or uses g no_use) kind) no_use lt

pub marked_other : (uses : List GlobalUse) (h g kind : ℕ) → h ≢ g → slice_index_or (marked uses (Some h) kind) g no_use ≡ slice_index_or uses g no_use
marked_other uses h g kind not = get_or-set_other uses h g (joined_use (slice_index_or uses h no_use) kind) no_use (λ q. not (sym q))

pub one_use : (uses : List GlobalUse) (at : Option ℕ) (kind g k : ℕ) → g < length uses → HasUseBit (marked uses at kind) g k ↔ (HasUseBit uses g k ⊎ ((at ≡ Some g) × (bit_at kind k ≡ 1)))
one_use uses None kind g k lt = (λ e. inl e, λ s. ⊎_elim (λ l. l) (λ (r : (None ≡ Some g) × (bit_at kind k ≡ 1)). let q = r.0 in absurd (cc)) s)
one_use uses (Some h) kind g k lt =
    ⊎_elim
    (λ (same : h ≡ g).
    let is : slice_index_or (marked uses (Some h) kind) g no_use ≡ joined_use (slice_index_or uses g no_use) kind =
    ap (λ z. slice_index_or (marked uses (Some z) kind) g no_use) same ∙ marked_same uses g kind lt in
    let bits = or_bits (slice_index_or uses g no_use).0 kind k in (
      λ e. ⊎_elim (λ l. inl l) (λ r. inr (ap (λ z. Some z) same, r)) (bits.0 (sym (ap (λ z. bit_at z.0 k) is) ∙ e)),
      λ s. ap (λ z. bit_at z.0 k) is ∙ bits.1 (⊎_elim (λ l. inl l) (λ r. inr r.1) s),
    ))
    (λ (not : h ≢ g).
    let is = marked_other uses h g kind not in (
      λ e. inl (sym (ap (λ z. bit_at z.0 k) is) ∙ e),
      λ s. ap (λ z. bit_at z.0 k) is ∙ ⊎_elim (λ l. l) (λ (r : (Some h ≡ Some g) × (bit_at kind k ≡ 1)). absurd (not (same_Some _ _ r.0))) s,
    ))
    (cases_eq h g)

-- ---- several more uses

pub with_length : (uses : List GlobalUse) (noted : List (ℕ × GlobalUse)) → length (with_uses uses noted) ≡ length uses
with_length uses [] = refl
with_length uses (more ∷ rest) = with_length (marked uses (Some more.0) more.1.0) rest ∙ marked_length uses (Some more.0) more.1.0

with_bits_in : (uses : List GlobalUse) (noted : List (ℕ × GlobalUse)) (g k : ℕ) → g < length uses → HasUseBit (with_uses uses noted) g k ↔ (HasUseBit uses g k ⊎ NotesUse noted g k)
with_bits_in uses [] g k lt = (λ e. inl e, λ s. elim s [ inl l ↦ l | inr r ↦ elim r.1 [ ] ])
with_bits_in uses (more ∷ rest) g k lt =
    let after = with_bits_in (marked uses (Some more.0) more.1.0) rest g k (subst (λ n. g < n) (sym (marked_length uses (Some more.0) more.1.0)) lt) in
    let one = one_use uses (Some more.0) more.1.0 g k lt in (
      λ e. elim (after.0 e) [
        | inl l ↦ elim (one.0 l) [ inl a ↦ inl a | inr b ↦ inr (more, inl refl, same_Some _ _ b.0, b.1) ]
        | inr r ↦ inr (r.0, inr r.1, r.2, r.3)
      ],
      λ s. after.1 (elim s [ inl l ↦ inl (one.1 (inl l)) | inr r ↦ first_or r one.1 ]),
    ) where
      first_or : NotesUse (more ∷ rest) g k → (HasUseBit uses g k ⊎ ((Some more.0 ≡ Some g) × (bit_at more.1.0 k ≡ 1)) → HasUseBit (marked uses (Some more.0) more.1.0) g k)
          → HasUseBit (marked uses (Some more.0) more.1.0) g k ⊎ NotesUse rest g k
      first_or r one = elim r.1 [
        | inl is ↦ inl (one (inr (ap (λ (z : ℕ × GlobalUse). Some z.0) is ∙ ap (λ z. Some z) r.2, ap (λ (z : ℕ × GlobalUse). bit_at z.1.0 k) is ∙ r.3)))
        | inr later ↦ inr (r.0, later, r.2, r.3)
      ]

none_past : (uses : List GlobalUse) (g k : ℕ) → length uses ≤ g → HasUseBit uses g k → ⊥
none_past uses g k le h = zero_has_none k (sym (ap (λ (z : GlobalUse). bit_at z.0 k) (get_or_past uses g no_use le)) ∙ h)

noted_below : (noted : List (ℕ × GlobalUse)) (n g k : ℕ) → All (λ u. u.0 < n) noted → NotesUse noted g k → g < n
noted_below [] n g k below r = elim r.1 [ ]
noted_below (more ∷ rest) n g k below r = elim r.1 [
  | inl is ↦ subst (λ z. z < n) (ap (λ (z : ℕ × GlobalUse). z.0) is ∙ r.2) (All-head (λ (u : ℕ × GlobalUse). u.0 < n) more rest below)
  | inr later ↦ noted_below rest n g k (All-tail (λ (u : ℕ × GlobalUse). u.0 < n) more rest below) (r.0, later, r.2, r.3)
]

pub with_bits : (uses : List GlobalUse) (noted : List (ℕ × GlobalUse)) (g k : ℕ) → All (λ u. u.0 < length uses) noted → HasUseBit (with_uses uses noted) g k ↔ (HasUseBit uses g k ⊎ NotesUse noted g k)
with_bits uses noted g k below = elim (cases_lt g (length uses)) [
  | inl lt ↦ with_bits_in uses noted g k lt
  | inr le ↦ (
    λ e. absurd (none_past (with_uses uses noted) g k (subst (λ n. n ≤ g) (sym (with_length uses noted)) le) e),
    λ s. absurd (elim s [ inl l ↦ none_past uses g k le l | inr r ↦ (let lt = noted_below noted (length uses) g k below r in omega (arith, le, lt)) ]),
  )
]

-- ---- inclusion of uses

-- so far
abbrev pub DominatesBelow : List GlobalUse → List GlobalUse → ℕ → Type 0
DominatesBelow uses others place = (g : ℕ) → g < place → Has (slice_index_or uses g no_use).0 (slice_index_or others g no_use).0

pub dominates_more : (uses others : List GlobalUse) (place : ℕ) → DominatesBelow uses others place → Has (slice_index_or uses place no_use).0 (slice_index_or others place no_use).0 → DominatesBelow uses others (place + 1)
dominates_more uses others place below here g lt = elim (cases_eq g place) [
  | inl same ↦ subst (λ z. Has (slice_index_or uses z no_use).0 (slice_index_or others z no_use).0) (sym same) here
  | inr not ↦ below g (omega (arith, lt, not))
]

pub dominates_all : (uses others : List GlobalUse) (place : ℕ) → DominatesBelow uses others place → length others ≤ place → Dominates uses others
dominates_all uses others place below past g = elim (cases_lt g (length others)) [
  | inl lt ↦ below g (omega (arith, lt, past))
  | inr le ↦ subst (λ (z : GlobalUse). Has (slice_index_or uses g no_use).0 z.0) (sym (get_or_past others g no_use le)) (and_zero_r (slice_index_or uses g no_use).0)
]
