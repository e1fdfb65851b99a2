-- Kinds of use by their bits.
use Rattle.std.proofs.Common.{◌≡◌, ◌≢◌, ◌≤◌, ◌<◌, inl, inr, ℕ, zero, suc, ◌/◌, ◌%◌, sym, ap, ◌∙◌, arith}
use Rattle.std.specs.Int.{bit_at}
use Rattle.std.proofs.lemmas.Bool.{cases_eq}
use Rattle.std.proofs.lemmas.Nat.Bits.{bit_at_lowest, bit_at-lt, bit_at-suc, bit_at-zero}
use Rattle.ir_flags.proofs.SetLaws.{bits-within, within-bits}
use Rattle.ir_flags.specs.Sets.{Has}

one_in : (a b : ℕ) → b < 2 → a ≤ b → a ≡ 1 → b ≡ 1
one_in a b small le one = omega (arith, small, le, one)

-- a set has all bits of one that is within it
pub within_all : (outer inner : ℕ) → Has outer inner → (k : ℕ) → bit_at inner k ≡ 1 → bit_at outer k ≡ 1
within_all outer inner has k one = one_in (bit_at inner k) (bit_at outer k) (bit_at-lt outer k) (within-bits inner outer has k) one

below_by : (a b : ℕ) → a < 2 → (a ≡ 1 → b ≡ 1) → a ≤ b
below_by zero b small h = omega arith
below_by (suc zero) b small h = let e = h (omega arith) in omega (arith, e)
below_by (suc (suc n)) b small h = absurd (omega (arith, small))

-- and one is within it whose bits it has
pub all_within : (outer inner : ℕ) → ((k : ℕ) → bit_at inner k ≡ 1 → bit_at outer k ≡ 1) → Has outer inner
all_within outer inner all = bits-within inner outer (λ k. below_by (bit_at inner k) (bit_at outer k) (bit_at-lt inner k) (all k))

-- ---- a number that is not 0 has a bit

bit_by : (fuel n : ℕ) → n ≤ fuel → n ≢ 0 → (k : ℕ) × (bit_at n k ≡ 1)
bit_by zero n le not = absurd (not (omega (arith, le)))
bit_by (suc fuel) n le not = elim (cases_eq (n % 2) 1) [
  | inl odd ↦ (zero, bit_at_lowest n ∙ odd)
  | inr even ↦ (
      let half : n / 2 ≢ 0 = λ h. not (omega (arith, h, even)) in
      let small : n / 2 ≤ fuel = omega (arith, le, not) in
      let rest = bit_by fuel (n / 2) small half in
      (suc rest.0, bit_at-suc n rest.0 ∙ rest.1))
]

pub some_bit : (n : ℕ) → n ≢ 0 → (k : ℕ) × (bit_at n k ≡ 1)
some_bit n not = bit_by n n (omega arith) not

pub no_bit : (n k : ℕ) → n ≡ 0 → bit_at n k ≡ 1 → ⊥
no_bit n k is e = let z : 0 ≡ 1 = sym (bit_at-zero k) ∙ (sym (ap (λ x. bit_at x k) is) ∙ e) in omega (arith, z)
