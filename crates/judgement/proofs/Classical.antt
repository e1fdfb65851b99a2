-- Finite search without a decision procedure: all items have a property, or one is the first without it (as double negations).
use Rattle.std.proofs.Common.{◌≡◌, ◌⊎◌, inl, inr, ℕ, zero, suc, ◌<◌, subst, sym, arith, rules}

-- its double negation holds
abbrev pub Holds : Type 0 → Type 0
Holds A = ¬ (¬ A)

pub surely : {A : Type 0} → A → Holds A
surely a = λ n. n a

pub then : {A B : Type 0} → Holds A → (A → Holds B) → Holds B
then a f = λ n. a (λ x. f x n)

pub either : (A : Type 0) → Holds (A ⊎ (¬ A))
either A = λ n. n (inr (λ a. n (inl a)))

-- The least of the first `n` numbers without the property.
pub record IsFirstWithout (P : ℕ → Type 0) (count place : ℕ) : Type 0 where
  pub within : place < count
  pub before : (j : ℕ) → j < place → P j
  pub fails : ¬ P place

abbrev pub Sought : (P : ℕ → Type 0) → ℕ → Type 0
Sought P count = ((j : ℕ) → j < count → P j) ⊎ ((place : ℕ) × IsFirstWithout P count place)

below_or_last : (j n : ℕ) → j < suc n → (j < n) ⊎ (j ≡ n)
below_or_last j n lt = search rules

with_last : (P : ℕ → Type 0) (n : ℕ) → ((j : ℕ) → j < n → P j) → P n → (j : ℕ) → j < suc n → P j
with_last P n all last j lt =
    elim (below_or_last j n lt) [
      | inl less ↦ all j less
      | inr same ↦ subst P (sym same) last
    ]

one_more : (P : ℕ → Type 0) (n : ℕ) → Sought P n → Holds (Sought P (suc n))
one_more P n (inr found) =
    let f = found.1 in
    let w = f.within in
    surely (inr (found.0, record { within = omega (arith, w); before = f.before; fails = f.fails }))
one_more P n (inl all) =
    then (either (P n)) (λ o.
    elim o [
      | inl last ↦ surely (inl (with_last P n all last))
      | inr not_last ↦ surely (inr (n, record { within = omega arith; before = all; fails = not_last }))
    ])

-- each has the property, or one is the first without it
pub all_or_first : (P : ℕ → Type 0) (count : ℕ) → Holds (Sought P count)
all_or_first P zero = surely (inl (λ j lt. absurd (omega (arith, lt))))
all_or_first P (suc n) = then (all_or_first P n) (one_more P n)
