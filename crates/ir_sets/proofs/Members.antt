-- The set of the numbers whose bits are set in the words.
use Rattle.std.proofs.Common.{◌≡◌, ℕ, zero, suc, ◌+◌, ◌*◌, ◌/◌, ◌<◌, ◌≤◌, max, Bool, true, false, not, cond, ◌&&◌, ◌||◌, List, [], ◌∷◌, length, get_or, filter, nat_eq, refl, sym, ap, inl, inr, true≢false, Result, Ok, Err, OnErr, IsTrue, Option, None, Some, IfNone, IfSome, is_some, ◌∙◌, arith}
use Rattle.std.specs.List.{AllByRecursion, list_any, range_with_len}
use Rattle.std.specs.Ordering.{nat_cmp}
use Rattle.std.specs.Cmp.{nat_cmp_total, unsigned_tied}
use Rattle.std.specs.FinSet as set
use Rattle.std.specs.FinSet.{contains-from_list_nat, contains-insert, contains-remove, same_set, nat_cmp-IsAntisymmetric, len-insert, len-empty, contains-empty}
use Rattle.std.specs.Int.{div_ceil}
use Rattle.std.proofs.lemmas.Bool.{cases_eq, cases_lt, eq-eqb, ne_eqb}
use Rattle.ir_sets.specs.Bits.{has_bit, bits_of, members, IsGreatest, IsTrimmed, AreWords}
use Rattle.ir_sets.specs.Places.{ListsMembers}
use Rattle.ir_sets.proofs.Words.{no_word}

-- whether q is in the list
abbrev has : List ℕ → ℕ → Bool
has xs q = list_any (λ y. nat_eq y q) xs

pub OnErr-always : {X E P : Type 0} (r : Result X E) → P → OnErr r P
OnErr-always (Ok x) p = tt
OnErr-always (Err e) p = p

-- ---- membership

-- whether q is one of `count` numbers from one on
abbrev is_counted : ℕ → ℕ → ℕ → Bool
is_counted a zero q = false
is_counted a (suc n) q = nat_eq a q || is_counted (a + 1) n q

counted : (a n q : ℕ) → a ≤ q → q < a + n → is_counted a n q ≡ true
counted a zero q reached within = absurd (omega arith)
counted a (suc n) q reached within =
    elim (cases_eq a q) [
      | inl first ↦ rw (eq-eqb a q first) refl
      | inr other ↦ rw (ne_eqb a q other) (counted (a + 1) n q (omega arith) (omega arith))
    ]

has_kept : (b : Bool) (x : ℕ) (rest : List ℕ) (q : ℕ) → has (cond b (x ∷ rest) rest) q ≡ ((b && nat_eq x q) || has rest q)
has_kept true x rest q = refl
has_kept false x rest q = refl

same_factor : (b c : Bool) → (b || (b && c)) ≡ (b && true)
same_factor true c = refl
same_factor false c = refl

has_filtered : (p : ℕ → Bool) (a n q : ℕ) → has (filter p (range_with_len a n)) q ≡ (p q && is_counted a n q)
has_filtered p a zero q = none (p q)
  where
    none : (b : Bool) → false ≡ (b && false)
    none true = refl
    none false = refl
has_filtered p a (suc n) q =
    has_kept (p a) a (filter p (range_with_len (a + 1) n)) q
    ∙ ap (λ b. (p a && nat_eq a q) || b) (has_filtered p (a + 1) n q)
    ∙ elim (cases_eq a q) [
      | inl first ↦ rw (eq-eqb a q first, first) (joined (p q) (is_counted (q + 1) n q))
      | inr other ↦ rw (ne_eqb a q other) (ap (λ b. b || (p q && is_counted (a + 1) n q)) (none (p a)))
    ]
  where
    joined : (b c : Bool) → ((b && true) || (b && c)) ≡ (b && true)
    joined true c = refl
    joined false c = refl

    none : (b : Bool) → (b && false) ≡ false
    none true = refl
    none false = refl

and_true : (b : Bool) → (b && true) ≡ b
and_true true = refl
and_true false = refl

pub contains_kept : (p : ℕ → Bool) (count q : ℕ) → (count ≤ q → p q ≡ false) → set.contains (set.from_list {R = nat_cmp} (filter p (range_with_len 0 count))) q ≡ p q
contains_kept p count q out =
    contains-from_list_nat (filter p (range_with_len 0 count)) q ∙ has_filtered p 0 count q
    ∙ elim (cases_lt q count) [
      | inl inside ↦ rw (counted 0 count q (omega arith) (omega arith)) (and_true (p q))
      | inr past ↦ rw (out past) refl
    ]

pub contains-members : (words : List ℕ) (q : ℕ) → set.contains (members words) q ≡ has_bit words q
unfolding members
contains-members words q = contains_kept (has_bit words) (64 * length words) q (λ out. no_word words q (omega arith))

pub same_members : (xs ys : List ℕ) → ((q : ℕ) → has_bit xs q ≡ has_bit ys q) → members xs ≡ members ys
same_members xs ys same =
    same_set nat_cmp_total nat_cmp-IsAntisymmetric _ _ (λ q. contains-members xs q ∙ same q ∙ sym (contains-members ys q))

pub inserted_members : (xs ys : List ℕ) (n : ℕ) → ((q : ℕ) → has_bit ys q ≡ (nat_eq q n || has_bit xs q)) → members ys ≡ set.insert (members xs) n
inserted_members xs ys n same =
    same_set nat_cmp_total nat_cmp-IsAntisymmetric _ _
    (λ q. contains-members ys q ∙ same q ∙ sym (contains-insert nat_cmp_total (members xs) n q ∙ (λ i. unsigned_tied q n i || contains-members xs q i)))

pub removed_members : (xs ys : List ℕ) (n : ℕ) → ((q : ℕ) → has_bit ys q ≡ (not (nat_eq q n) && has_bit xs q)) → members ys ≡ set.remove (members xs) n
removed_members xs ys n same =
    same_set nat_cmp_total nat_cmp-IsAntisymmetric _ _
    (λ q. contains-members ys q ∙ same q ∙ sym (contains-remove nat_cmp_total (members xs) n q ∙ (λ i. not (unsigned_tied q n i) && contains-members xs q i)))

-- ---- all bits

-- each number is below all later ones
abbrev IsRising : List ℕ → Type 0
IsRising [] = Unit {0}
IsRising (x ∷ xs) = AllByRecursion (λ y. x < y) xs × IsRising xs

both_kept : (P : ℕ → Type 0) (b : Bool) (x : ℕ) (rest : List ℕ) → P x → AllByRecursion P rest → AllByRecursion P (cond b (x ∷ rest) rest)
both_kept P true x rest p all = (p, all)
both_kept P false x rest p all = all

above_kept : (p : ℕ → Bool) (x a n : ℕ) → x < a → AllByRecursion (λ y. x < y) (filter p (range_with_len a n))
above_kept p x a zero less = tt
above_kept p x a (suc n) less = both_kept (λ y. x < y) (p a) a (filter p (range_with_len (a + 1) n)) less (above_kept p x (a + 1) n (omega arith))

rising_with : (b : Bool) (x : ℕ) (rest : List ℕ) → AllByRecursion (λ y. x < y) rest → IsRising rest → IsRising (cond b (x ∷ rest) rest)
rising_with true x rest above rising = (above, rising)
rising_with false x rest above rising = rising

rising_kept : (p : ℕ → Bool) (a n : ℕ) → IsRising (filter p (range_with_len a n))
rising_kept p a zero = tt
rising_kept p a (suc n) = rising_with (p a) a (filter p (range_with_len (a + 1) n)) (above_kept p a (a + 1) n (omega arith)) (rising_kept p (a + 1) n)

above_apart : (xs : List ℕ) (x : ℕ) → AllByRecursion (λ y. x < y) xs → has xs x ≡ false
above_apart [] x all = refl
above_apart (y ∷ xs) x all = let more : x < y = all.0 in rw (ne_eqb y x (λ e. omega arith)) (above_apart xs x all.1)

len_rising : (xs : List ℕ) → IsRising xs → set.len (set.from_list {R = nat_cmp} xs) ≡ length xs
len_rising [] r = len-empty nat_cmp
len_rising (x ∷ xs) r =
    let absent = contains-from_list_nat xs x ∙ above_apart xs x r.0 in
    len-insert nat_cmp_total (set.from_list xs) x ∙ rw absent (omega (arith, len_rising xs r.1))

pub len_members : (words : List ℕ) → set.len (members words) ≡ length (bits_of words)
unfolding members
len_members words = len_rising (bits_of words) (rising_kept (has_bit words) 0 (64 * length words))

at_place : (P : ℕ → Type 0) (xs : List ℕ) → AllByRecursion P xs → (k : ℕ) → k < length xs → P (get_or xs k 0)
at_place P [] all k below = absurd (omega arith)
at_place P (x ∷ xs) all zero below = all.0
at_place P (x ∷ xs) all (suc k) below = at_place P xs all.1 k (omega arith)

rises : (xs : List ℕ) → IsRising xs → (k : ℕ) → k + 1 < length xs → get_or xs k 0 < get_or xs (k + 1) 0
rises [] r k within = absurd (omega arith)
rises (x ∷ xs) r zero within = at_place (λ y. x < y) xs r.0 0 (omega arith)
rises (x ∷ xs) r (suc k) within = let e : suc k + 1 ≡ suc (k + 1) = omega arith in rw e (rises xs r.1 k (omega arith))

pub members_in_order : (words : List ℕ) → ListsMembers (members words) (bits_of words)
unfolding members
members_in_order words =
    record {
      rising = rises (bits_of words) (rising_kept (has_bit words) 0 (64 * length words));
      same = contains-from_list_nat (bits_of words);
    }

-- ---- the empty set

pub no_members : (words : List ℕ) → length words ≡ 0 → members words ≡ set.empty
no_members words none =
    same_set nat_cmp_total nat_cmp-IsAntisymmetric _ _
    (λ q. contains-members words q ∙ no_word words q (omega arith) ∙ sym (contains-empty nat_cmp q))

pub has_member : (words : List ℕ) (n : ℕ) → has_bit words n ≡ true → members words ≡ set.empty → ⊥
has_member words n one is = true≢false (sym one ∙ sym (contains-members words n) ∙ ap (λ s. set.contains s n) is ∙ contains-empty nat_cmp n)

pub empty_when : (words : List ℕ) (r : Option ℕ) (b : Bool) → is_some r ≡ not b → IfNone r (length words ≡ 0) → IfSome r (IsGreatest words)
    → (IsTrue b → members words ≡ set.empty) × (members words ≡ set.empty → IsTrue b)
empty_when words None true is none some = (λ _. no_members words none, λ _. refl)
empty_when words None false is none some = absurd (true≢false (sym is))
empty_when words (Some n) true is none some = absurd (true≢false is)
empty_when words (Some n) false is none some = (λ t. absurd (true≢false (sym t)), λ e. absurd (has_member words n some.set e))

-- ---- removal of the greatest

pub record Popped (old new : List ℕ) (n : ℕ) : Type 0 where
  pub member : set.contains (members old) n ≡ true
  pub greatest : (q : ℕ) → set.contains (members old) q ≡ true → q ≤ n
  pub removed : members new ≡ set.remove (members old) n
  pub some : members old ≡ set.empty → ⊥

pub popped : (old new : List ℕ) (n : ℕ) → IsGreatest old n → ((q : ℕ) → has_bit new q ≡ (not (nat_eq q n) && has_bit old q)) → Popped old new n
popped old new n top same =
    record {
      member = contains-members old n ∙ top.set;
      greatest = λ q one. top.last q (sym (contains-members old q) ∙ one);
      removed = removed_members old new n same;
      some = has_member old n top.set;
    }

-- ---- the invariant of the words, after a change

pub words_with : (old new : List ℕ) (n : ℕ) → AreWords old → n < 4294967295 → length new ≡ max (length old) (div_ceil (n + 1) 64)
    → ((q : ℕ) → has_bit new q ≡ (nat_eq q n || has_bit old q)) → AreWords new
words_with old new n are small long same =
    let here : has_bit new n ≡ true = same n ∙ ap (λ b. b || has_bit old n) (eq-eqb n n refl) in
    let kept : (q : ℕ) → has_bit old q ≡ true → has_bit new q ≡ true = λ q one. same q ∙ ap (λ b. nat_eq q n || b) one ∙ or_true (nat_eq q n) in
    let short : length old ≤ 67108864 = are.shown.short in
    record {
      trimmed = λ _. elim (cases_lt (n / 64) (length old)) [
        | inl inside ↦ let last = are.trimmed (omega arith) in (last.0, omega (arith, last.1), kept last.0 last.2)
        | inr out ↦ (n, omega arith, here)
      ];
      shown = record {
        short = omega arith;
        indexes = λ q one. elim (cases_eq q n) [
          | inl is ↦ rw is small
          | inr other ↦ are.shown.indexes q (ap (λ b. b || has_bit old q) (sym (ne_eqb q n other)) ∙ sym (same q) ∙ one)
        ];
      };
    }
  where
    or_true : (b : Bool) → (b || true) ≡ true
    or_true true = refl
    or_true false = refl

pub words_without : (old new : List ℕ) (n : ℕ) → AreWords old → IsTrimmed new → length new ≤ length old
    → ((q : ℕ) → has_bit new q ≡ (not (nat_eq q n) && has_bit old q)) → AreWords new
words_without old new n are trimmed less same =
    let short : length old ≤ 67108864 = are.shown.short in
    record {
      trimmed = trimmed;
      shown = record {
        short = omega arith;
        indexes = λ q one. elim (cases_eq q n) [
          | inl is ↦ absurd (true≢false (sym one ∙ same q ∙ ap (λ b. not b && has_bit old q) (eq-eqb q n is)))
          | inr other ↦ are.shown.indexes q (ap (λ b. not b && has_bit old q) (sym (ne_eqb q n other)) ∙ sym (same q) ∙ one)
        ];
      };
    }

pub words_of_none : AreWords []
words_of_none =
    record {
      trimmed = λ long. absurd (omega arith);
      shown = record { short = omega arith; indexes = λ n one. absurd (true≢false (sym one ∙ no_word [] n (omega arith))) };
    }

pub already_member : (words : List ℕ) (n : ℕ) → has_bit words n ≡ true → members words ≡ set.insert (members words) n
already_member words n one =
    inserted_members words words n
    (λ q. elim (cases_eq q n) [
      | inl here ↦ rw (eq-eqb q n here, here) one
      | inr other ↦ rw (ne_eqb q n other) refl
    ])

pub no_member : (words : List ℕ) (n : ℕ) → has_bit words n ≡ false → members words ≡ set.remove (members words) n
no_member words n none =
    removed_members words words n
    (λ q. elim (cases_eq q n) [
      | inl here ↦ rw (eq-eqb q n here, here) none
      | inr other ↦ rw (ne_eqb q n other) refl
    ])
