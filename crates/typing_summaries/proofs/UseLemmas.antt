-- The uses after all effects.
use Rattle.std.proofs.Common.{◌≡◌, ◌≢◌, ◌⊎◌, ℕ, suc, zero, ◌+◌, ◌/◌, ◌%◌, ◌<◌, ◌≤◌, max, Option, Some, None, Bool, true, false, List, [], ◌∷◌, length, refl, sym, ap, ◌∙◌, subst, inl, inr, ⊎_elim, arith, slice_get, slice_set, get_or, bit_or, length-set}
use Rattle.std.specs.Prelude.{◌↔◌, ◌==◌, slice_index_or}
use Rattle.std.specs.Int.{bit_at}
use Rattle.std.proofs.lemmas.Bool.{cases_eq, cases_lt, ne_eqb}
use Rattle.std.proofs.lemmas.List.{get_or-set_same, get_or-set_other}
use Rattle.std.proofs.lemmas.Nat.Bits.{bit_at_or, bit_at-lt, bit_at-zero, bit_at_lowest, bit_at-suc}
use Rattle.std.proofs.lemmas.Option.{same_Some}
use Rattle.spec_expressions.specs.declared.global_use.GlobalUse.{GlobalUse}
use Rattle.spec_expressions.specs.judged.Summaries.{HasUseBit}
use Rattle.typing_infos.specs.Infos.{marked}
use Rattle.typing_infos.proofs.UseBits.{or_bits, zero_has_none, marked_length, one_use}
use Rattle.typing_summaries.specs.Tallies.{merged_from, merged}
use Rattle.typing_summaries.proofs.Effects.{do_one, do_all}

-- an integer is 0 or has a bit set
some_bit_by : (fuel n : ℕ) → n ≤ fuel → (n ≡ 0) ⊎ ((j : ℕ) × (bit_at n j ≡ 1))
some_bit_by zero n le = inl (omega (arith, le))
some_bit_by (suc fuel) n le =
    ⊎_elim
    (λ (odd : n % 2 ≡ 1). inr (zero, bit_at_lowest n ∙ odd))
    (λ (not : n % 2 ≢ 1). ⊎_elim
    (λ (none : n / 2 ≡ 0). inl (omega (arith, none, not)))
    (λ (some : (j : ℕ) × (bit_at (n / 2) j ≡ 1)). inr (suc some.0, bit_at-suc n some.0 ∙ some.1))
    (some_bit_by fuel (n / 2) (omega (arith, le))))
    (cases_eq (n % 2) 1)

pub some_bit : (n : ℕ) → (n ≡ 0) ⊎ ((j : ℕ) × (bit_at n j ≡ 1))
some_bit n = some_bit_by n n (omega arith)

-- ---- uses of a callee

merged_length : (i : ℕ) (uses others : List GlobalUse) → length (merged_from i uses others) ≡ length uses
merged_length i uses [] = refl
merged_length i uses (other ∷ others) = merged_length (i + 1) (marked uses (Some i) other.0) others ∙ marked_length uses (Some i) other.0

-- the element at an index among those that begin at i
abbrev AtFrom : ℕ → List GlobalUse → (g k : ℕ) → Type 0
AtFrom i others g k = (j : ℕ) × (g ≡ i + j) × HasUseBit others j k

empty_has_none : (j k : ℕ) → HasUseBit [] j k → ⊥
empty_has_none j k h = zero_has_none k h

merged_bits : (i : ℕ) (uses others : List GlobalUse) (g k : ℕ) → g < length uses → HasUseBit (merged_from i uses others) g k ↔ (HasUseBit uses g k ⊎ AtFrom i others g k)
merged_bits i uses [] g k lt = (λ e. inl e, λ s. elim s [ inl l ↦ l | inr r ↦ absurd (empty_has_none r.0 k r.2) ])
merged_bits i uses (other ∷ others) g k lt =
    let longer : g < length (marked uses (Some i) other.0) = subst (λ z. g < z) (sym (marked_length uses (Some i) other.0)) lt in
    let rest = merged_bits (i + 1) (marked uses (Some i) other.0) others g k longer in
    let one = one_use uses (Some i) other.0 g k lt in (
      λ e. elim (rest.0 e) [
        | inl l ↦ elim (one.0 l) [ inl a ↦ inl a | inr b ↦ inr (zero, (let q : i ≡ g = same_Some _ _ b.0 in omega (arith, q)), b.1) ]
        | inr r ↦ inr (suc r.0, (let q = r.1 in omega (arith, q)), r.2)
      ],
      λ s. rest.1 (elim s [
        | inl l ↦ inl (one.1 (inl l))
        | inr r ↦ at_or_after r.0 r.1 r.2 one.1
      ]),
    ) where
      at_or_after : (j : ℕ) → g ≡ i + j → HasUseBit (other ∷ others) j k → (HasUseBit uses g k ⊎ ((Some i ≡ Some g) × (bit_at other.0 k ≡ 1)) → HasUseBit (marked uses (Some i) other.0) g k)
          → HasUseBit (marked uses (Some i) other.0) g k ⊎ AtFrom (i + 1) others g k
      at_or_after zero q h one = inl (one (inr (ap (λ z. Some z) (let p : i ≡ g = omega (arith, q) in p), h)))
      at_or_after (suc j) q h one = inr (j, (omega (arith, q)), h)

pub merge_bits : (uses others : List GlobalUse) (g k : ℕ) → g < length uses → HasUseBit (merged uses others) g k ↔ (HasUseBit uses g k ⊎ HasUseBit others g k)
merge_bits uses others g k lt =
    let m = merged_bits 0 uses others g k lt in (
      λ e. elim (m.0 e) [ inl l ↦ inl l | inr r ↦ inr (subst (λ z. HasUseBit others z k) (let q = r.1 in let p : r.0 ≡ g = omega (arith, q) in p) r.2) ],
      λ s. m.1 (elim s [ inl l ↦ inl l | inr r ↦ inr (g, omega arith, r) ]),
    )

pub merge_length : (uses others : List GlobalUse) → length (merged uses others) ≡ length uses
merge_length uses others = merged_length 0 uses others
