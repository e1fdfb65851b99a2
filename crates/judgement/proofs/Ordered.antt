-- The existence of a sorted list of pairs of bounded numbers with a property (as double negations).
use Rattle.std.proofs.Common.{◌≡◌, ◌<◌, ◌≤◌, ◌⊎◌, inl, inr, ℕ, zero, suc, List, [], ◌∷◌, refl, sym, ap, subst, ◌∙◌, arith}
use Rattle.std.specs.Prelude.{◌↔◌}
use Rattle.std.specs.List.{AllByRecursion}
use Rattle.std.specs.List.Sorted.{IsStrictlySortedBy}
use Rattle.std.specs.Ordering.{MatchOrdering, nat_cmp, ordering_then}
use Rattle.std.specs.declared.cmp.Ordering.{Ordering}
use Rattle.std.specs.declared.cmp.Ordering.TheVariants.{Less, Equal, Greater}
use Rattle.std.proofs.lemmas.Bool.{cases_lt, cases_eq}
use Rattle.std.proofs.lemmas.Cmp.{ranked}
use Rattle.typing_rules.specs.judged.Laws.{IsAmong}
use Rattle.judgement.proofs.Classical.{Holds, surely, then, either}
use Rattle.judgement.specs.judged.Reports.{pair_cmp}

-- ---- the order

is_less : (a b : ℕ) (o : Ordering) → a < b → MatchOrdering o (a < b) (a ≡ b) (b < a) → o ≡ Less
is_less a b Less lt r = refl
is_less a b Equal lt r = absurd (omega (arith, lt, r))
is_less a b Greater lt r = absurd (omega (arith, lt, r))

is_equal : (a b : ℕ) (o : Ordering) → a ≡ b → MatchOrdering o (a < b) (a ≡ b) (b < a) → o ≡ Equal
is_equal a b Less e r = absurd (omega (arith, e, r))
is_equal a b Equal e r = refl
is_equal a b Greater e r = absurd (omega (arith, e, r))

less : (a b : ℕ) → a < b → nat_cmp a b ≡ Less
less a b lt = is_less a b (nat_cmp a b) lt (ranked a b (nat_cmp a b) refl)

equal : (a b : ℕ) → a ≡ b → nat_cmp a b ≡ Equal
equal a b e = is_equal a b (nat_cmp a b) e (ranked a b (nat_cmp a b) refl)

-- the pair is (i, j) or a later one
abbrev IsFrom : (i j : ℕ) → ℕ × ℕ → Type 0
IsFrom i j p = (i < p.0) ⊎ ((p.0 ≡ i) × (j ≤ p.1))

before : (i j : ℕ) (p : ℕ × ℕ) → IsFrom i (suc j) p → pair_cmp (i, j) p ≡ Less
before i j p (inl lt) = ap (λ o. ordering_then o (nat_cmp j p.1)) (less i p.0 lt)
before i j p (inr e) = ap (λ o. ordering_then o (nat_cmp j p.1)) (equal i p.0 (sym e.0)) ∙ less j p.1 (let le = e.1 in omega (arith, le))

-- ---- lists

module _ (P : ℕ × ℕ → Type 0) (n : ℕ) (below : (p : ℕ × ℕ) → P p → (p.0 < n) × (p.1 < n)) where
  -- it has these pairs from (i, j) on, in order
  record AreFrom (i j : ℕ) (xs : List (ℕ × ℕ)) : Type 0 where
    pub ordered : IsStrictlySortedBy pair_cmp xs
    pub exact : (p : ℕ × ℕ) → IsAmong p xs ↔ (P p × IsFrom i j p)

  all_behind : (i j : ℕ) (xs : List (ℕ × ℕ)) → ((p : ℕ × ℕ) → IsAmong p xs → IsFrom i (suc j) p) → AllByRecursion (λ y. pair_cmp (i, j) y ≡ Less) xs
  all_behind i j [] from = tt
  all_behind i j (x ∷ xs) from = (before i j x (from x (inl refl)), all_behind i j xs (λ p among. from p (inr among)))

  put : (x : ℕ × ℕ) (xs : List (ℕ × ℕ)) → AllByRecursion (λ y. pair_cmp x y ≡ Less) xs → IsStrictlySortedBy pair_cmp xs → IsStrictlySortedBy pair_cmp (x ∷ xs)
  unfolding IsStrictlySortedBy
  put x xs all sorted = (all, sorted)

  nothing_sorted : IsStrictlySortedBy pair_cmp []
  unfolding IsStrictlySortedBy
  nothing_sorted = tt

  weaker : (i j : ℕ) (p : ℕ × ℕ) → IsFrom i (suc j) p → IsFrom i j p
  weaker i j p (inl lt) = inl lt
  weaker i j p (inr e) = inr (e.0, (let le = e.1 in omega (arith, le)))

  same_pair : (i j : ℕ) (p : ℕ × ℕ) → p.0 ≡ i → p.1 ≡ j → (i, j) ≡ p
  same_pair i j p a b = ap (λ x. (x, j)) (sym a) ∙ ap (λ y. (p.0, y)) (sym b)

  here_or_behind : (i j : ℕ) (p : ℕ × ℕ) → IsFrom i j p → ((i, j) ≡ p) ⊎ IsFrom i (suc j) p
  here_or_behind i j p (inl lt) = inr (inl lt)
  here_or_behind i j p (inr e) = elim (cases_eq p.1 j) [
    | inl same ↦ inl (same_pair i j p e.0 same)
    | inr differ ↦ inr (inr (e.0, (let le = e.1 in omega (arith, le, differ))))
  ]

  with_exact : (i j : ℕ) (xs : List (ℕ × ℕ)) → P (i, j) → AreFrom i (suc j) xs → (p : ℕ × ℕ) → IsAmong p ((i, j) ∷ xs) ↔ (P p × IsFrom i j p)
  with_exact i j xs it a p = (
    λ among. elim among [
      | inl is ↦ (subst P is it, subst (IsFrom i j) is (inr (refl, omega arith)))
      | inr later ↦ (let r = (a.exact p).0 later in (r.0, weaker i j p r.1))
    ],
    λ r. elim (here_or_behind i j p r.1) [ inl same ↦ inl same | inr behind ↦ inr ((a.exact p).1 (r.0, behind)) ],
  )

  with_it : (i j : ℕ) (xs : List (ℕ × ℕ)) → P (i, j) → AreFrom i (suc j) xs → AreFrom i j ((i, j) ∷ xs)
  with_it i j xs it a = record { ordered = put (i, j) xs (all_behind i j xs (λ p among. ((a.exact p).0 among).1)) a.ordered; exact = with_exact i j xs it a }

  without_exact : (i j : ℕ) (xs : List (ℕ × ℕ)) → ¬ P (i, j) → AreFrom i (suc j) xs → (p : ℕ × ℕ) → IsAmong p xs ↔ (P p × IsFrom i j p)
  without_exact i j xs not_it a p = (
    λ among. (let r = (a.exact p).0 among in (r.0, weaker i j p r.1)),
    λ r. elim (here_or_behind i j p r.1) [ inl same ↦ absurd (not_it (subst P (sym same) r.0)) | inr behind ↦ (a.exact p).1 (r.0, behind) ],
  )

  without_it : (i j : ℕ) (xs : List (ℕ × ℕ)) → ¬ P (i, j) → AreFrom i (suc j) xs → AreFrom i j xs
  without_it i j xs not_it a = record { ordered = a.ordered; exact = without_exact i j xs not_it a }

  abbrev Some_ : (i j : ℕ) → Type 0
  Some_ i j = (xs : List (ℕ × ℕ)) × AreFrom i j xs

  one_more_by : (i j : ℕ) → Some_ i (suc j) → P (i, j) ⊎ (¬ P (i, j)) → Some_ i j
  one_more_by i j found (inl it) = ((i, j) ∷ found.0, with_it i j found.0 it found.1)
  one_more_by i j found (inr no_it) = (found.0, without_it i j found.0 no_it found.1)

  one_more : (i j : ℕ) → Some_ i (suc j) → Holds (Some_ i j)
  one_more i j found = then (either (P (i, j))) (λ o. surely (one_more_by i j found o))

  -- over one row, from its end
  down : (i j : ℕ) → Some_ i j → Holds (Some_ i 0)
  down i zero found = surely found
  down i (suc j) found = then (one_more i j found) (λ f. down i j f)

  after : (i : ℕ) (p : ℕ × ℕ) → IsFrom (suc i) 0 p → IsFrom i n p
  after i p (inl lt) = inl (omega (arith, lt))
  after i p (inr e) = inl (let s = e.0 in omega (arith, s))

  back : (i : ℕ) (p : ℕ × ℕ) → p.1 < n → IsFrom i n p → IsFrom (suc i) 0 p
  back i p small (inl lt) = elim (cases_eq p.0 (suc i)) [ inl same ↦ inr (same, omega arith) | inr differ ↦ inl (omega (arith, lt, differ)) ]
  back i p small (inr e) = absurd (let le = e.1 in omega (arith, le, small))

  row_exact : (i : ℕ) (found : Some_ (suc i) 0) (p : ℕ × ℕ) → IsAmong p found.0 ↔ (P p × IsFrom i n p)
  row_exact i found p = (λ among. (let r = (found.1.exact p).0 among in (r.0, after i p r.1)), λ r. (found.1.exact p).1 (r.0, back i p (below p r.0).1 r.1))

  -- a row starts where the next is complete
  row_end : (i : ℕ) → Some_ (suc i) 0 → Some_ i n
  row_end i found = (found.0, record { ordered = found.1.ordered; exact = row_exact i found })

  rows : (i : ℕ) → Some_ i 0 → Holds (Some_ 0 0)
  rows zero found = surely found
  rows (suc i) found = then (down i n (row_end i found)) (λ f. rows i f)

  out : (p : ℕ × ℕ) → p.0 < n → IsFrom n 0 p → ⊥
  out p small (inl lt) = omega (arith, lt, small)
  out p small (inr e) = let s = e.0 in omega (arith, s, small)

  none_at_end : (p : ℕ × ℕ) → IsAmong p [] ↔ (P p × IsFrom n 0 p)
  none_at_end p = (λ among. elim among [ ], λ r. absurd (out p (below p r.0).0 r.1))

  -- there are none so far
  at_end : Some_ n 0
  at_end = ([], record { ordered = nothing_sorted; exact = none_at_end })

  all_from : (p : ℕ × ℕ) → IsFrom 0 0 p
  all_from p = elim (cases_eq p.0 0) [ inl same ↦ inr (same, omega arith) | inr differ ↦ inl (omega (arith, differ)) ]

  all_exact : (found : Some_ 0 0) (p : ℕ × ℕ) → IsAmong p found.0 ↔ P p
  all_exact found p = (λ among. ((found.1.exact p).0 among).0, λ h. (found.1.exact p).1 (h, all_from p))

  -- they are sorted in some list
  pub some_ordered : Holds ((xs : List (ℕ × ℕ)) × (IsStrictlySortedBy pair_cmp xs × ((p : ℕ × ℕ) → IsAmong p xs ↔ P p)))
  some_ordered = then (rows n at_end) (λ found. surely (found.0, (found.1.ordered, all_exact found)))
