-- Expressions that came range by range.
use Rattle.std.proofs.Common.{◌≡◌, ℕ, zero, suc, ◌+◌, ◌-◌, ◌<◌, ◌≤◌, inl, inr, Bool, true, false, ◌||◌, List, [], ◌∷◌, ◌++◌, All, Contains, length, take, drop, nat_eq, IsTrue, true≢false, refl, sym, ap, ◌∙◌, subst, arith}
use Rattle.std.specs.Cmp.{nat_eq_equiv}
use Rattle.std.specs.List.{AllByRecursion, IsDistinct, list_any, range_with_len}
use Rattle.std.specs.Ordering.{nat_cmp}
use Rattle.std.specs.FinSet as set
use Rattle.std.specs.FinSet.{contains-empty}
use Rattle.std.proofs.lemmas.Bool.{cases_eq, cases_lt, eq-eqb, ne_eqb, or_cases, or_parts}
use Rattle.std.proofs.lemmas.List.{append-nil, append_assoc, flat_map_more, length-append, length-take-le, take-append-drop, take_at, drop_at, take_all, take-take}
use Rattle.std.proofs.lemmas.List.Elements.{All-from_get_or}
use Rattle.std.proofs.lemmas.List.FromFn.{length-range_with_len, get_or-range_with_len}
use Rattle.std.proofs.lemmas.Map.Made.{length-le_from_is_member}
use Rattle.ir_arena.specs.judged.Handles.{handles_between}
use Rattle.ir_sets.specs.Bits.{Becomes, NoneBetween, SomeBetween}
use Rattle.function_body_checks.proofs.Lists.{holds_at, held_at}
use Rattle.function_body_checks.proofs.Tables.{only}
use Rattle.function_body_checks.specs.Carried.{holds}
use Rattle.function_body_checks.specs.Lists.{listed, AreOnce, AreListed, IsAdded, AreAdded}

or_assoc : (a b c : Bool) → (a || (b || c)) ≡ ((a || b) || c)
or_assoc true b c = refl
or_assoc false b c = refl

or_false : (a : Bool) → (a || false) ≡ a
or_false true = refl
or_false false = refl

or_true : (a : Bool) → (a || true) ≡ true
or_true true = refl
or_true false = refl

holds-append : (xs ys : List ℕ) (e : ℕ) → holds (xs ++ ys) e ≡ (holds xs e || holds ys e)
holds-append [] ys e = refl
holds-append (x ∷ xs) ys e = ap (λ b. nat_eq x e || b) (holds-append xs ys e) ∙ or_assoc (nat_eq x e) (holds xs e) (holds ys e)

-- ---- none twice

once_front : (xs ys : List ℕ) → AreOnce (xs ++ ys) → AreOnce xs
once_front [] ys once = tt
once_front (x ∷ xs) ys once = ((or_parts (holds xs x) (holds ys x) (sym (holds-append xs ys x) ∙ once.0)).0, once_front xs ys once.1)

-- what is after is not in front
once_apart : (xs ys : List ℕ) (e : ℕ) → AreOnce (xs ++ ys) → holds ys e ≡ true → holds xs e ≡ false
once_apart [] ys e once there = refl
once_apart (x ∷ xs) ys e once there =
    elim (cases_eq x e) [
      | inl same ↦ absurd (true≢false (sym there ∙ (or_parts (holds xs e) (holds ys e) (sym (holds-append xs ys e) ∙ ap (holds (xs ++ ys)) (sym same) ∙ once.0)).1))
      | inr other ↦ ap (λ b. b || holds xs e) (ne_eqb x e other) ∙ once_apart xs ys e once.1 there
    ]

once_both : (xs ys : List ℕ) → AreOnce xs → AreOnce ys → ((e : ℕ) → holds xs e ≡ true → holds ys e ≡ false) → AreOnce (xs ++ ys)
once_both [] ys first second apart = second
once_both (x ∷ xs) ys first second apart = (
  holds-append xs ys x ∙ (λ i. first.0 i || apart x (ap (λ b. b || holds xs x) (eq-eqb x x refl)) i),
  once_both xs ys first.1 second (λ e there. apart e (ap (λ b. nat_eq x e || b) there ∙ or_true (nat_eq x e))),
)

each_differs : (x : ℕ) (xs : List ℕ) → holds xs x ≡ false → AllByRecursion (λ y. nat_eq x y ≡ false) xs
each_differs x [] none = tt
each_differs x (y ∷ ys) none =
    let parts = or_parts (nat_eq y x) (holds ys x) none in
    (nat_eq_equiv.symm x y ∙ parts.0, each_differs x ys parts.1)

distinct : (xs : List ℕ) → AreOnce xs → IsDistinct nat_eq xs
unfolding IsDistinct
distinct [] once = tt
distinct (x ∷ xs) once = (each_differs x xs once.0, distinct xs once.1)

-- ---- a range

range_below : (a n e : ℕ) → e < a → holds (range_with_len a n) e ≡ false
range_below a zero e before = refl
range_below a (suc n) e before = ap (λ b. b || holds (range_with_len (a + 1) n) e) (ne_eqb a e (λ same. omega arith)) ∙ range_below (a + 1) n e (omega arith)

range_above : (a n e : ℕ) → a + n ≤ e → holds (range_with_len a n) e ≡ false
range_above a zero e past = refl
range_above a (suc n) e past = ap (λ b. b || holds (range_with_len (a + 1) n) e) (ne_eqb a e (λ same. omega arith)) ∙ range_above (a + 1) n e (omega arith)

range_inside : (a n e : ℕ) → a ≤ e → e < a + n → holds (range_with_len a n) e ≡ true
range_inside a zero e reached within = absurd (omega arith)
range_inside a (suc n) e reached within =
    elim (cases_eq a e) [
      | inl same ↦ ap (λ b. b || holds (range_with_len (a + 1) n) e) (eq-eqb a e same)
      | inr other ↦ ap (λ b. nat_eq a e || b) (range_inside (a + 1) n e (omega arith) (omega arith)) ∙ or_true (nat_eq a e)
    ]

range_outside : (a n e : ℕ) → (a ≤ e → e < a + n → ⊥) → holds (range_with_len a n) e ≡ false
range_outside a n e out =
    elim (cases_lt e a) [
      | inl before ↦ range_below a n e before
      | inr reached ↦ elim (cases_lt e (a + n)) [ inl within ↦ absurd (out reached within) | inr past ↦ range_above a n e past ]
    ]

range_holds : (a n e : ℕ) → holds (range_with_len a n) e ≡ true → (a ≤ e) × (e < a + n)
range_holds a n e there =
    elim (cases_lt e a) [
      | inl before ↦ absurd (true≢false (sym there ∙ range_below a n e before))
      | inr reached ↦ elim (cases_lt e (a + n)) [ inl within ↦ (reached, within) | inr past ↦ absurd (true≢false (sym there ∙ range_above a n e past)) ]
    ]

range_once : (a n : ℕ) → AreOnce (range_with_len a n)
range_once a zero = tt
range_once a (suc n) = (range_below (a + 1) n a (omega arith), range_once (a + 1) n)

range_split : (a n m : ℕ) → range_with_len a (n + m) ≡ range_with_len a n ++ range_with_len (a + n) m
range_split a zero m = let none : zero + m ≡ m = omega arith in let same : a + zero ≡ a = omega arith in rw (none, same) refl
range_split a (suc n) m =
    let more : suc n + m ≡ suc (n + m) = omega arith in
    let on : a + 1 + n ≡ a + suc n = omega arith in
    rw more (ap (λ l. a ∷ l) (range_split (a + 1) n m ∙ ap (λ b. range_with_len (a + 1) n ++ range_with_len b m) on))

pub length-between : (r : ℕ × ℕ) → length (handles_between r) ≡ r.1 - r.0
length-between r = length-range_with_len r.0 (r.1 - r.0)

pub between_contains : (r : ℕ × ℕ) (e : ℕ) → r.0 ≤ e → e < r.1 → Contains (handles_between r) e
between_contains r e reached within = held_at (handles_between r) e (range_inside r.0 (r.1 - r.0) e reached (omega arith))

-- no more than there are numbers below a bound
bounded : (n : ℕ) (xs : List ℕ) → AreOnce xs → ((e : ℕ) → holds xs e ≡ true → e < n) → length xs ≤ n
bounded n xs once small =
    omega (arith, length-le_from_is_member nat_eq_equiv xs (range_with_len 0 n) (distinct xs once) (λ q there. member_of (range_with_len 0 n) q (range_inside 0 n q (omega arith) (omega (arith, small q (member_in xs q there))))), length-range_with_len 0 n)
  where
    turned : (xs : List ℕ) (q : ℕ) → list_any (nat_eq q) xs ≡ holds xs q
    turned [] q = refl
    turned (x ∷ xs) q = (λ i. nat_eq_equiv.symm q x i || turned xs q i)

    member_in : (xs : List ℕ) (q : ℕ) → list_any (nat_eq q) xs ≡ true → holds xs q ≡ true
    member_in xs q there = sym (turned xs q) ∙ there

    member_of : (xs : List ℕ) (q : ℕ) → holds xs q ≡ true → list_any (nat_eq q) xs ≡ true
    member_of xs q there = turned xs q ∙ there

-- ---- one more range

pub listed-push : (ranges : List (ℕ × ℕ)) (r : ℕ × ℕ) → listed (ranges ++ r ∷ []) ≡ listed ranges ++ handles_between r
listed-push ranges r = sym (flat_map_more handles_between [] ranges r)

module _ (members : set.FinSet nat_cmp) (ranges : List (ℕ × ℕ)) (count : ℕ) (are : AreListed members ranges count) (r : ℕ × ℕ) (small : r.1 ≤ 4294967296) (none : NoneBetween (set.contains members) r.0 r.1) where
  apart : (e : ℕ) → holds (listed ranges) e ≡ true → holds (handles_between r) e ≡ false
  apart e there =
      range_outside r.0 (r.1 - r.0) e (λ reached within. true≢false (sym there ∙ sym (are.found e) ∙ none e reached (omega arith)))

  all_small : (e : ℕ) → holds (listed ranges ++ handles_between r) e ≡ true → e < 4294967296
  all_small e there =
      elim (or_cases (holds (listed ranges) e) (holds (handles_between r) e) (sym (holds-append (listed ranges) (handles_between r) e) ∙ there)) [
        | inl before ↦ are.small e before
        | inr here ↦ let inside = range_holds r.0 (r.1 - r.0) e here in omega (arith, inside)
      ]

  all_once : AreOnce (listed ranges ++ handles_between r)
  all_once = once_both (listed ranges) (handles_between r) are.once (range_once r.0 (r.1 - r.0)) apart

  pub few : count + (r.1 - r.0) ≤ 4294967296
  few =
      let most = bounded 4294967296 (listed ranges ++ handles_between r) all_once all_small in
      omega (arith, most, are.many, length-append (listed ranges) (handles_between r), length-between r)

  pub listed_more : (new : set.FinSet nat_cmp) → Becomes true (set.contains members) (set.contains new) r.0 r.1 → AreListed new (ranges ++ r ∷ []) (count + (r.1 - r.0))
  listed_more new added =
      let is = listed-push ranges r in
      record {
        found = λ e. rw (is, holds-append (listed ranges) (handles_between r) e) (found_more e);
        once = rw is all_once;
        small = rw is all_small;
        many = rw (is, length-append (listed ranges) (handles_between r), length-between r) (omega (arith, are.many));
      }
    where
      found_more : (e : ℕ) → set.contains new e ≡ (holds (listed ranges) e || holds (handles_between r) e)
      found_more e =
          elim (cases_lt e r.0) [
            | inl before ↦ added.others e (λ reached within. omega arith) ∙ are.found e ∙ sym (or_false (holds (listed ranges) e)) ∙ ap (λ b. holds (listed ranges) e || b) (sym (range_below r.0 (r.1 - r.0) e before))
            | inr reached ↦ elim (cases_lt e r.1) [
              | inl within ↦ added.within e reached within ∙ sym (or_true (holds (listed ranges) e)) ∙ ap (λ b. holds (listed ranges) e || b) (sym (range_inside r.0 (r.1 - r.0) e reached (omega arith)))
              | inr past ↦ added.others e (λ r l. omega arith) ∙ are.found e ∙ sym (or_false (holds (listed ranges) e)) ∙ ap (λ b. holds (listed ranges) e || b) (sym (range_outside r.0 (r.1 - r.0) e (λ l h. omega arith)))
            ]
          ]

  pub fresh_more : All (λ e. ¬ Contains (listed ranges) e) (handles_between r)
  fresh_more =
      All-from_get_or (λ e. ¬ Contains (listed ranges) e) (handles_between r) 0
      (λ k inside held.
      let at : k < r.1 - r.0 = omega (arith, inside, length-between r) in
      let is = get_or-range_with_len r.0 (r.1 - r.0) k 0 at in
      true≢false (sym (holds_at (listed ranges) _ held) ∙ sym (are.found _) ∙ none _ (omega (arith, is)) (omega (arith, is))))

-- one of the range is there
pub known_there : (members : set.FinSet nat_cmp) (ranges : List (ℕ × ℕ)) (count : ℕ) → AreListed members ranges count → (r : ℕ × ℕ) → SomeBetween (set.contains members) r.0 r.1
    → (e : ℕ) × Contains (handles_between r) e × Contains (listed ranges) e
known_there members ranges count are r some =
    let e = some.0 in
    let reached : r.0 ≤ e = some.1 in
    let within : e < r.1 = some.2 in
    (e, between_contains r e reached within, held_at (listed ranges) e (sym (are.found e) ∙ some.3))

-- ---- the last ones go

-- the first n of a list are left of the set where those after them are taken out
pub listed_cut : (members new : set.FinSet nat_cmp) (ranges left : List (ℕ × ℕ)) (count n from end : ℕ) → AreListed members ranges count → n ≤ length (listed ranges)
    → Becomes false (set.contains members) (set.contains new) from end → ((e : ℕ) → from ≤ e → e < end → holds (drop n (listed ranges)) e ≡ true)
    → ((e : ℕ) → (from ≤ e → e < end → ⊥) → holds (drop n (listed ranges)) e ≡ false) → listed left ≡ take n (listed ranges) → AreListed new left n
listed_cut members new ranges left count n from end are short taken inside outside is =
    record {
      found = λ e. rw is (found_left e);
      once = rw is (once_front (take n xs) (drop n xs) once);
      small = λ e there. are.small e (sym (ap (λ l. holds l e) (take-append-drop n xs)) ∙ holds-append (take n xs) (drop n xs) e ∙ ap (λ b. b || holds (drop n xs) e) (sym (ap (λ l. holds l e) is) ∙ there));
      many = rw is (sym (length-take-le n xs short));
    }
  where
    xs : List ℕ
    xs = listed ranges

    once : AreOnce (take n (listed ranges) ++ drop n (listed ranges))
    once = subst AreOnce (sym (take-append-drop n (listed ranges))) are.once

    found_left : (e : ℕ) → set.contains new e ≡ holds (take n (listed ranges)) e
    found_left e =
        let whole : holds (listed ranges) e ≡ (holds (take n (listed ranges)) e || holds (drop n (listed ranges)) e) =
        sym (ap (λ l. holds l e) (take-append-drop n (listed ranges))) ∙ holds-append (take n (listed ranges)) (drop n (listed ranges)) e in
        let out : (from ≤ e → e < end → ⊥) → set.contains new e ≡ holds (take n (listed ranges)) e = λ far.
        taken.others e far ∙ are.found e ∙ whole ∙ ap (λ b. holds (take n (listed ranges)) e || b) (outside e far) ∙ or_false (holds (take n (listed ranges)) e) in
        elim (cases_lt e from) [
          | inl before ↦ out (λ reached within. omega arith)
          | inr reached ↦ elim (cases_lt e end) [
            | inl within ↦ taken.within e reached within ∙ sym (once_apart (take n (listed ranges)) (drop n (listed ranges)) e once (inside e reached within))
            | inr past ↦ out (λ r l. omega arith)
          ]
        ]

-- after the ranges before the last, and the first of the last one
module _ (rest : List (ℕ × ℕ)) (first end kept : ℕ) (within : kept ≤ end - first) where
  split : listed (rest ++ (first, end) ∷ []) ≡ (listed rest ++ range_with_len first kept) ++ range_with_len (first + kept) (end - first - kept)
  split =
      let parts : end - first ≡ kept + (end - first - kept) = omega arith in
      listed-push rest (first, end) ∙ ap (λ n. listed rest ++ range_with_len first n) parts
      ∙ ap (λ l. listed rest ++ l) (range_split first kept (end - first - kept))
      ∙ sym (append_assoc (listed rest) (range_with_len first kept) (range_with_len (first + kept) (end - first - kept)))

  long : length (listed rest ++ range_with_len first kept) ≡ length (listed rest) + kept
  long = length-append (listed rest) (range_with_len first kept) ∙ ap (λ n. length (listed rest) + n) (length-range_with_len first kept)

  pub front_is : (n : ℕ) → n ≡ length (listed rest) + kept → take n (listed (rest ++ (first, end) ∷ [])) ≡ listed rest ++ range_with_len first kept
  front_is n is = ap (take n) split ∙ take_at (listed rest ++ range_with_len first kept) (range_with_len (first + kept) (end - first - kept)) n (long ∙ sym is)

  pub back_is : (n : ℕ) → n ≡ length (listed rest) + kept → drop n (listed (rest ++ (first, end) ∷ [])) ≡ range_with_len (first + kept) (end - first - kept)
  back_is n is = ap (drop n) split ∙ drop_at (listed rest ++ range_with_len first kept) (range_with_len (first + kept) (end - first - kept)) n (long ∙ sym is)

  pub count_is : length (listed (rest ++ (first, end) ∷ [])) ≡ length (listed rest) + (end - first)
  count_is = ap length (listed-push rest (first, end)) ∙ length-append (listed rest) (range_with_len first (end - first)) ∙ ap (λ n. length (listed rest) + n) (length-range_with_len first (end - first))

-- the last range of these is let go, all but its first so many
pub last_cut : (members new : set.FinSet nat_cmp) (ranges rest left : List (ℕ × ℕ)) (count n first end kept : ℕ) → AreListed members ranges count → ranges ≡ rest ++ (first, end) ∷ [] → kept ≤ end - first
    → n + (end - first) ≡ count + kept → Becomes false (set.contains members) (set.contains new) (first + kept) end → listed left ≡ listed rest ++ range_with_len first kept
    → AreListed new left n × (listed left ≡ take n (listed ranges))
last_cut members new ranges rest left count n first end kept are is within sum taken shape =
    let whole : listed ranges ≡ listed (rest ++ (first, end) ∷ []) = ap listed is in
    let all : count ≡ length (listed rest) + (end - first) = are.many ∙ ap length whole ∙ count_is rest first end kept within in
    let place : n ≡ length (listed rest) + kept = omega arith in
    let front : listed left ≡ take n (listed ranges) = shape ∙ sym (ap (take n) whole ∙ front_is rest first end kept within n place) in
    let back : drop n (listed ranges) ≡ range_with_len (first + kept) (end - first - kept) = ap (drop n) whole ∙ back_is rest first end kept within n place in
    let short : n ≤ length (listed ranges) = omega (arith, are.many) in (
      listed_cut members new ranges left count n (first + kept) end are short taken
          (λ e reached low. rw back (range_inside (first + kept) (end - first - kept) e reached (omega arith)))
          (λ e out. rw back (range_outside (first + kept) (end - first - kept) e (λ reached low. out reached (omega arith))))
          front,
      front,
    )

pub pair_is : (r : ℕ × ℕ) (first end : ℕ) → first ≡ r.0 → end ≡ r.1 → r ≡ (first, end)
pair_is r first end is_first is_end i = (sym is_first i, sym is_end i)

pub last_is : (ranges rest : List (ℕ × ℕ)) (r : ℕ × ℕ) (first end : ℕ) → ranges ≡ rest ++ r ∷ [] → first ≡ r.0 → end ≡ r.1 → ranges ≡ rest ++ (first, end) ∷ []
last_is ranges rest r first end is is_first is_end = is ∙ ap (λ (x : ℕ × ℕ). rest ++ x ∷ []) (pair_is r first end is_first is_end)

pub last_len : (members : set.FinSet nat_cmp) (ranges rest : List (ℕ × ℕ)) (count first end : ℕ) → AreListed members ranges count → ranges ≡ rest ++ (first, end) ∷ [] → end - first ≤ count
last_len members ranges rest count first end are is = omega (arith, are.many ∙ ap length (ap listed is) ∙ count_is rest first end 0 (omega arith))

pub part_left : (left rest : List (ℕ × ℕ)) (r : ℕ × ℕ) (first kept : ℕ) → left ≡ rest ++ r ∷ [] → r ≡ (first, first + kept) → listed left ≡ listed rest ++ range_with_len first kept
part_left left rest r first kept is shape =
    let long : first + kept - first ≡ kept = omega arith in
    ap listed is ∙ listed-push rest r ∙ ap (λ (x : ℕ × ℕ). listed rest ++ handles_between x) shape ∙ ap (λ n. listed rest ++ range_with_len first n) long

pub none_left : (rest : List (ℕ × ℕ)) (first kept : ℕ) → kept ≡ 0 → listed rest ≡ listed rest ++ range_with_len first kept
none_left rest first kept none = sym (ap (λ n. listed rest ++ range_with_len first n) none ∙ append-nil (listed rest))

pub listed_contains : (members : set.FinSet nat_cmp) (ranges : List (ℕ × ℕ)) (count : ℕ) → AreListed members ranges count → (e : ℕ) (b : Bool) → b ≡ set.contains members e
    → (IsTrue b → Contains (listed ranges) e) × (Contains (listed ranges) e → IsTrue b)
listed_contains members ranges count are e b is =
    (λ yes_. held_at (listed ranges) e (sym (are.found e) ∙ sym is ∙ yes_), λ held. is ∙ are.found e ∙ holds_at (listed ranges) e held)

-- what is after the first so many of a list is of no matter for fewer
pub cut_more : (xs ys old : List ℕ) (n result : ℕ) → ys ≡ take result xs → n ≤ result → take n xs ≡ take n old → take n ys ≡ take n old
cut_more xs ys old n result is more same = ap (take n) is ∙ take-take n result xs more ∙ same

pub cut_all : (xs old : List ℕ) (n count : ℕ) → count ≡ length xs → count ≤ n → take n xs ≡ take n old → xs ≡ take n old
cut_all xs old n count many less same = sym (take_all n xs (omega arith)) ∙ same

-- ---- from one list to the next

pub listed_of_none : (members : set.FinSet nat_cmp) → members ≡ set.empty → AreListed members [] 0
listed_of_none members is =
    record {
      found = λ e. ap (λ s. set.contains s e) is ∙ contains-empty nat_cmp e;
      once = tt;
      small = λ e there. absurd (true≢false (sym there));
      many = refl;
    }

pub one_added : (old new : List ℕ) (e : ℕ) (b : Bool) → AreAdded old new (handles_between (e, e + 1)) b → IsAdded old new e b
one_added old new e b added = as_one old new e b (rw (one_between e) at added)
  where
    one_between : (e : ℕ) → handles_between (e, e + 1) ≡ e ∷ []
    one_between e = let one : e + 1 - e ≡ 1 = omega arith in ap (range_with_len e) one

    as_one : (old new : List ℕ) (e : ℕ) (b : Bool) → AreAdded old new (e ∷ []) b → IsAdded old new e b
    as_one old new e true added = (added.0, added.1 0 0 (omega arith))
    as_one old new e false added = (added.0, subst (Contains old) (sym (only e added.1.0 added.1.1)) added.1.2)
