-- The existence of a number with given bits, and of a list with given items (as double negations).
use Rattle.std.proofs.Common.{◌≡◌, ◌<◌, ◌⊎◌, inl, inr, ℕ, zero, suc, ◌+◌, ◌*◌, ◌/◌, ◌%◌, List, [], ◌∷◌, length, refl, sym, ap, subst, ◌∙◌, arith}
use Rattle.std.specs.Prelude.{◌↔◌, slice_index_or}
use Rattle.std.specs.Int.{bit_at}
use Rattle.std.proofs.lemmas.Nat.Bits.{bit_at_lowest, bit_at-suc, bit_at-zero}
use Rattle.judgement.proofs.Classical.{Holds, surely, then, either}

-- ---- numbers

-- these are the bits of the number
pub record HasBits (P : ℕ → Type 0) (x : ℕ) : Type 0 where
  pub exact : (k : ℕ) → (bit_at x k ≡ 1) ↔ P k

no_bits : (P : ℕ → Type 0) → ((k : ℕ) → P k → ⊥) → HasBits P 0
no_bits P none = record { exact = λ k. (λ b. absurd (let z : 0 ≡ 1 = sym (bit_at-zero k) ∙ b in omega (arith, z)), λ p. absurd (none k p)) }

module _ (P : ℕ → Type 0) (x b : ℕ) (higher : HasBits (λ k. P (suc k)) x) (small : b < 2) (lowest : (b ≡ 1) ↔ P 0) where
  odd : (2 * x + b) % 2 ≡ b
  odd = omega (arith, small)

  half : (2 * x + b) / 2 ≡ x
  half = omega (arith, small)

  with_lowest_at : (k : ℕ) → (bit_at (2 * x + b) k ≡ 1) ↔ P k
  with_lowest_at zero = (λ e. lowest.0 (sym odd ∙ (sym (bit_at_lowest (2 * x + b)) ∙ e)), λ p. bit_at_lowest (2 * x + b) ∙ (odd ∙ lowest.1 p))
  with_lowest_at (suc k) =
      let same : bit_at (2 * x + b) (suc k) ≡ bit_at x k = bit_at-suc (2 * x + b) k ∙ ap (λ n. bit_at n k) half in
      (λ e. (higher.exact k).0 (sym same ∙ e), λ p. same ∙ (higher.exact k).1 p)

  with_lowest : HasBits P (2 * x + b)
  with_lowest = record { exact = with_lowest_at }

-- a number with finitely many bits exists
pub some_number : (n : ℕ) (P : ℕ → Type 0) → ((k : ℕ) → P k → k < n) → Holds ((x : ℕ) × HasBits P x)
some_number zero P below = surely (0, no_bits P (λ k p. let lt = below k p in omega (arith, lt)))
some_number (suc n) P below =
    then (some_number n (λ k. P (suc k)) (λ k p. let lt = below (suc k) p in omega (arith, lt))) (λ higher.
    then (either (P 0)) (λ o.
    elim o [
      | inl p ↦ surely (2 * higher.0 + 1, with_lowest P higher.0 1 higher.1 (omega arith) (λ e. p, λ q. refl))
      | inr without ↦ surely (2 * higher.0 + 0, with_lowest P higher.0 0 higher.1 (omega arith) (λ e. absurd (omega (arith, e)), λ q. absurd (without q)))
    ]))

-- ---- lists

-- it has this length, and each item from an index on is as required
pub record HasItems {A : Type 0} (none : A) (Q : ℕ → A → Type 0) (first n : ℕ) (xs : List A) : Type 0 where
  pub many : length xs ≡ n
  pub each : (i : ℕ) → i < n → Q (first + i) (slice_index_or xs i none)

module _ {A : Type 0} (none : A) (Q : ℕ → A → Type 0) where
  one_before_at : (first n : ℕ) (x : A) (xs : List A) → Q first x → HasItems none Q (suc first) n xs → (i : ℕ) → i < suc n → Q (first + i) (slice_index_or (x ∷ xs) i none)
  one_before_at first n x xs q rest zero lt = subst (λ k. Q k x) (let e : first ≡ first + 0 = omega arith in e) q
  one_before_at first n x xs q rest (suc i) lt = subst (λ k. Q k (slice_index_or xs i none)) (let e : suc first + i ≡ first + suc i = omega arith in e) (rest.each i (omega (arith, lt)))

  one_before : (first n : ℕ) (x : A) (xs : List A) → Q first x → HasItems none Q (suc first) n xs → HasItems none Q first (suc n) (x ∷ xs)
  one_before first n x xs q rest = record { many = ap suc rest.many; each = one_before_at first n x xs q rest }

  pub some_list : (n first : ℕ) → ((g : ℕ) → Holds ((x : A) × Q g x)) → Holds ((xs : List A) × HasItems none Q first n xs)
  some_list zero first found = surely ([], record { many = refl; each = λ i lt. absurd (omega (arith, lt)) })
  some_list (suc n) first found =
      then (found first) (λ x.
      then (some_list n (suc first) found) (λ rest. surely (x.0 ∷ rest.0, one_before first n x.0 rest.0 x.1 rest.1)))
