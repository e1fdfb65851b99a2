-- A power of two has exactly one bit set.
use Rattle.std.proofs.Common.{◌≡◌, ◌<◌, ◌≤◌, ◌+◌, ◌*◌, ◌/◌, ◌%◌, ◌^◌, inl, inr, ℕ, zero, suc, refl, sym, ap, ◌∙◌, arith}
use Rattle.std.specs.Int.{IsPowerOfTwo}
use Rattle.std.specs.Int.RustNames.{count_ones}
use Rattle.std.proofs.lemmas.Nat.{pow-add, pow_below, pow_pos, zero_from_ones, ones_le_self}
use Rattle.std.proofs.lemmas.Bool.{cases_lt}
use lib.Count.{ones_step}

two_more : (k : ℕ) → 2 ^ suc k ≡ 2 * 2 ^ k
two_more k = let e : suc k ≡ 1 + k = omega arith in ap (λ x. 2 ^ x) e ∙ pow-add 2 1 k

-- ---- one bit

half_even : (n : ℕ) → n % 2 ≡ 0 → IsPowerOfTwo (n / 2) → IsPowerOfTwo n
half_even n even (k, e) = (suc k, let t = two_more k in omega (arith, t, e, even))

one_bit : (d n : ℕ) → n ≤ d → count_ones n ≡ 1 → IsPowerOfTwo n
one_bit zero n h e = absurd (omega (arith, ones_le_self n, e))
one_bit (suc d) n h e =
    let s = ones_step n in
    elim (cases_lt 0 (n % 2)) [
      | inl odd ↦ let none : n / 2 ≡ 0 = zero_from_ones (n / 2) (omega (arith, s, e, odd)) in (0, omega (arith, none, odd))
      | inr even ↦ half_even n (omega (arith, even)) (one_bit d (n / 2) (omega arith) (omega (arith, s, e, even)))
    ]

pub power_from_bit : (n : ℕ) → count_ones n ≡ 1 → IsPowerOfTwo n
power_from_bit n = one_bit n n (omega arith)

ones_of_power : (k : ℕ) → count_ones (2 ^ k) ≡ 1
ones_of_power zero = omega (arith, ones_step 1, ones_le_self 0)
ones_of_power (suc k) =
    let s = ones_step (2 ^ suc k) in let t = two_more k in
    let half : 2 ^ suc k / 2 ≡ 2 ^ k = omega (arith, t) in
    let c : count_ones (2 ^ suc k / 2) ≡ count_ones (2 ^ k) = ap count_ones half in
    let r : 2 ^ suc k % 2 ≡ 0 = omega (arith, t) in
    omega (arith, s, c, r, ones_of_power k)

pub bit_from_power : (n : ℕ) → IsPowerOfTwo n → count_ones n ≡ 1
bit_from_power n (k, e) = ap count_ones e ∙ ones_of_power k

-- a power of two below 2 ^ 32 is one of at most 2 ^ 31
pub power_bound : (n : ℕ) → IsPowerOfTwo n → n < 2 ^ 32 → n ≤ 2147483648
power_bound n (k, e) lt = elim (cases_lt 31 k) [
  | inl above ↦ absurd (elim (cases_lt 32 k) [
    | inl more ↦ let h : 2 ^ 32 < 2 ^ k = pow_below 32 k more in omega (arith, h, e, lt)
    | inr same ↦ let q : k ≡ 32 = omega arith in let c : 2 ^ k ≡ 2 ^ 32 = ap (λ x. 2 ^ x) q in omega (arith, c, e, lt)
  ])
  | inr below ↦ elim (cases_lt k 31) [
    | inl less ↦ let h : 2 ^ k < 2 ^ 31 = pow_below k 31 less in omega (arith, h, e)
    | inr same ↦ let q : k ≡ 31 = omega arith in let c : 2 ^ k ≡ 2 ^ 31 = ap (λ x. 2 ^ x) q in omega (arith, c, e)
  ]
]

pub power_of_product : (a b : ℕ) → IsPowerOfTwo a → IsPowerOfTwo b → IsPowerOfTwo (a * b)
power_of_product a b (i, e) (j, g) = (i + j, (λ k. e k * g k) ∙ sym (pow-add 2 i j))

pub eight : IsPowerOfTwo 8
eight = (3, refl)

pub sixteen : IsPowerOfTwo 16
sixteen = (4, refl)

pub four : IsPowerOfTwo 4
four = (2, refl)

pub power_positive : (n : ℕ) → IsPowerOfTwo n → 0 < n
power_positive n (k, e) = let h : 0 < 2 ^ k = pow_pos k in omega (arith, h, e)
