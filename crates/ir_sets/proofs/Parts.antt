-- Ranges of numbers in a range set.
use Rattle.std.proofs.Common.{◌≡◌, ℕ, ◌+◌, ◌-◌, ◌*◌, ◌/◌, ◌%◌, ◌^◌, ◌<◌, ◌≤◌, min, Bool, true, false, not, ◌&&◌, ◌||◌, List, [], length, Option, None, Some, IfNone, IfSome, is_some, get_or, set, nat_eq, refl, sym, ap, inl, inr, true≢false, ◌∙◌, arith}
use Rattle.std.specs.Bool.{MatchBool}
use Rattle.std.specs.Int.{bit_at}
use Rattle.std.specs.Ordering.{nat_cmp}
use Rattle.std.specs.FinSet as set
use Rattle.std.specs.FinSet.{same_set, nat_cmp-IsAntisymmetric, contains-empty}
use Rattle.std.specs.Cmp.{nat_cmp_total}
use Rattle.std.proofs.lemmas.Bool.{cases_Bool, cases_eq, cases_lt, eq-eqb, ne_eqb}
use Rattle.std.proofs.lemmas.List.{get_or-set_same, get_or-set_other}
use Rattle.std.proofs.lemmas.Nat.Bits.{bit_at-zero, bit_at_ones}
use Rattle.ir_sets.specs.Bits.{has_bit, Becomes, NoneBetween, SomeBetween, IsFirst}
use Rattle.ir_sets.specs.Ranges.{counts, has_number, numbers, AreFilled, AreFilledBut, AreRanges, ChangesAt}
use Rattle.ir_sets.proofs.Members.{contains_kept}
use Rattle.ir_sets.proofs.Words.{no_word, same_word, some_bit, none_more, becomes_more, becomes_before}

or_true : (b : Bool) → (b || true) ≡ true
or_true true = refl
or_true false = refl

and_false : (b : Bool) → (b && false) ≡ false
and_false true = refl
and_false false = refl

-- ---- tests that agree

pub becomes_since : (value : Bool) (old same new : ℕ → Bool) (from end : ℕ) → ((n : ℕ) → same n ≡ old n) → Becomes value same new from end → Becomes value old new from end
becomes_since value old same new from end is b = record { within = b.within; others = λ n out. b.others n out ∙ is n }

pub becomes_then : (value : Bool) (old new same : ℕ → Bool) (from end : ℕ) → ((n : ℕ) → same n ≡ new n) → Becomes value old new from end → Becomes value old same from end
becomes_then value old new same from end is b = record { within = λ n reached low. is n ∙ b.within n reached low; others = λ n out. is n ∙ b.others n out }

pub becomes_none : (value : Bool) (old : ℕ → Bool) (from end : ℕ) → end ≤ from → Becomes value old old from end
becomes_none value old from end none = record { within = λ n reached low. absurd (omega arith); others = λ n out. refl }

-- ---- words of zeros and of ones

zero_word : (words : List ℕ) (n : ℕ) → get_or words (n / 64) 0 ≡ 0 → has_bit words n ≡ false
unfolding has_bit
zero_word words n is = ap (λ w. nat_eq (bit_at w (n % 64)) 1) is ∙ ap (λ b. nat_eq b 1) (bit_at-zero (n % 64))

ones_word : (words : List ℕ) (n : ℕ) → get_or words (n / 64) 0 ≡ 2 ^ 64 - 1 → has_bit words n ≡ true
unfolding has_bit
ones_word words n is = ap (λ w. nat_eq (bit_at w (n % 64)) 1) is ∙ ap (λ b. nat_eq b 1) (bit_at_ones 64 (n % 64) (omega arith))

set_elsewhere : (words : List ℕ) (index word n : ℕ) → (n / 64 ≡ index → ⊥) → has_bit (set words index word) n ≡ has_bit words n
set_elsewhere words index word n far = same_word (set words index word) words n (get_or-set_other words index (n / 64) word 0 far)

set_here : (words : List ℕ) (index word n : ℕ) → index < length words → n / 64 ≡ index → get_or (set words index word) (n / 64) 0 ≡ word
set_here words index word n inside is = rw is (get_or-set_same words index word 0 inside)

-- the bit of one number set or cleared
pub with_here : (old new : List ℕ) (index m : ℕ) → ((q : ℕ) → has_bit new q ≡ (nat_eq q index || has_bit old q)) → m ≡ index → has_bit new m ≡ true
with_here old new index m same is = same m ∙ ap (λ b. b || has_bit old m) (eq-eqb m index is)

pub with_elsewhere : (old new : List ℕ) (index m : ℕ) → ((q : ℕ) → has_bit new q ≡ (nat_eq q index || has_bit old q)) → (m ≡ index → ⊥) → has_bit new m ≡ has_bit old m
with_elsewhere old new index m same far = same m ∙ ap (λ b. b || has_bit old m) (ne_eqb m index far)

pub without_here : (old new : List ℕ) (index m : ℕ) → ((q : ℕ) → has_bit new q ≡ (not (nat_eq q index) && has_bit old q)) → m ≡ index → has_bit new m ≡ false
without_here old new index m same is = same m ∙ ap (λ b. not b && has_bit old m) (eq-eqb m index is)

pub without_elsewhere : (old new : List ℕ) (index m : ℕ) → ((q : ℕ) → has_bit new q ≡ (not (nat_eq q index) && has_bit old q)) → (m ≡ index → ⊥) → has_bit new m ≡ has_bit old m
without_elsewhere old new index m same far = same m ∙ ap (λ b. not b && has_bit old m) (ne_eqb m index far)

-- ---- a word that becomes valid

module _ (words some new_some : List ℕ) (index word : ℕ) (inside : index < length words) (same : (m : ℕ) → has_bit new_some m ≡ (nat_eq m index || has_bit some m)) where
  pub changes_there : ChangesAt words some (set words index word) new_some index
  changes_there =
      record {
        others = λ n far. set_elsewhere words index word n far;
        others_of_some = λ m far. with_elsewhere some new_some index m same far;
      }

  counts_elsewhere : (n : ℕ) → (n / 64 ≡ index → ⊥) → counts (set words index word) new_some n ≡ counts words some n
  unfolding counts
  counts_elsewhere n far = rw (with_elsewhere some new_some index (n / 64) same far, set_elsewhere words index word n far) refl

  pub counts_begun : word ≡ 0 → has_bit some index ≡ false → (n : ℕ) → counts (set words index word) new_some n ≡ counts words some n
  unfolding counts
  counts_begun zero not_yet n =
      elim (cases_eq (n / 64) index) [
        | inl is ↦
            rw (with_here some new_some index (n / 64) same is, zero_word (set words index word) n (set_here words index word n inside is ∙ zero), is, not_yet) refl
        | inr far ↦ counts_elsewhere n far
      ]

  pub number_spelled : (full new_full : List ℕ) → word ≡ 2 ^ 64 - 1 → has_bit full index ≡ true → ((m : ℕ) → has_bit new_full m ≡ (not (nat_eq m index) && has_bit full m))
      → (n : ℕ) → has_number (set words index word) new_some new_full n ≡ has_number words some full n
  unfolding counts has_number
  number_spelled full new_full ones all less n =
      elim (cases_eq (n / 64) index) [
        | inl is ↦
            rw (without_here full new_full index (n / 64) less is, with_here some new_some index (n / 64) same is, ones_word (set words index word) n (set_here words index word n inside is ∙ ones), is, all) refl
        | inr far ↦ rw (without_elsewhere full new_full index (n / 64) less far, with_elsewhere some new_some index (n / 64) same far, set_elsewhere words index word n far) refl
      ]

pub changes_nothing : (words some : List ℕ) (index : ℕ) → ChangesAt words some words some index
changes_nothing words some index = record { others = λ n far. refl; others_of_some = λ m far. refl }

-- ---- a range of one word that is inserted

module _ (words some now_words now_some new : List ℕ) (from end : ℕ) (less : from < end) (one_word : end ≤ (from / 64 + 1) * 64)
    (changes : ChangesAt words some now_words now_some (from / 64)) (begun : has_bit now_some (from / 64) ≡ true) (added : Becomes true (has_bit now_words) (has_bit new) from end) where
  pub counts_added : ((n : ℕ) → counts now_words now_some n ≡ counts words some n) → Becomes true (counts words some) (counts new now_some) from end
  unfolding counts
  counts_added same =
      record {
        within = λ n reached low.
            let is : n / 64 ≡ from / 64 = omega arith in
            rw (is, begun, added.within n reached low) refl;
        others = λ n out. ap (λ b. has_bit now_some (n / 64) && b) (added.others n out) ∙ same n;
      }

  pub filled_added : AreFilled words some → AreFilled new now_some
  filled_added filled m one =
      elim (cases_eq m (from / 64)) [
        | inl is ↦ (from, sym is, added.within from (omega arith) less)
        | inr far ↦
            let there = filled m (sym (changes.others_of_some m far) ∙ one) in
            let elsewhere : there.0 / 64 ≡ from / 64 → ⊥ = λ e. far (sym there.1 ∙ e) in
            let at : there.0 / 64 ≡ m = there.1 in
            (there.0, there.1, added.others there.0 (λ reached low. elsewhere (omega arith)) ∙ changes.others there.0 elsewhere ∙ there.2)
      ]

-- a new bit of a valid word is a new member
pub number_counted : (value : Bool) (words some new_words new_some full : List ℕ) (from end : ℕ) → value ≡ true → Becomes value (counts words some) (counts new_words new_some) from end
    → Becomes value (has_number words some full) (has_number new_words new_some full) from end
unfolding has_number
number_counted value words some new_words new_some full from end is b =
    record {
      within = λ n reached low. ap (λ x. has_bit full (n / 64) || x) (b.within n reached low ∙ is) ∙ or_true (has_bit full (n / 64)) ∙ sym is;
      others = λ n out. ap (λ x. has_bit full (n / 64) || x) (b.others n out);
    }

-- ---- a range of one word that is removed

module _ (words some full now_words now_some now_full new : List ℕ) (from end : ℕ) (less : from < end) (one_word : end ≤ (from / 64 + 1) * 64)
    (changes : ChangesAt words some now_words now_some (from / 64)) (taken : Becomes false (has_bit now_words) (has_bit new) from end) where
  pub number_taken : has_bit now_full (from / 64) ≡ false → ((n : ℕ) → has_number now_words now_some now_full n ≡ has_number words some full n)
      → Becomes false (has_number words some full) (has_number new now_some now_full) from end
  unfolding counts has_number
  number_taken spelled same =
      record {
        within = λ n reached low.
            let is : n / 64 ≡ from / 64 = omega arith in
            rw (is, spelled, taken.within n reached low) (and_false (has_bit now_some (from / 64)));
        others = λ n out. ap (λ b. has_bit now_full (n / 64) || (has_bit now_some (n / 64) && b)) (taken.others n out) ∙ same n;
      }

  pub filled_taken : AreFilled words some → AreFilledBut new now_some (from / 64)
  filled_taken filled m far one =
      let there = filled m (sym (changes.others_of_some m far) ∙ one) in
      let elsewhere : there.0 / 64 ≡ from / 64 → ⊥ = λ e. far (sym there.1 ∙ e) in
      (there.0, there.1, taken.others there.0 (λ reached low. elsewhere (omega arith)) ∙ changes.others there.0 elsewhere ∙ there.2)

-- ---- a word that may become 0

pub filled_some : (words some : List ℕ) (index : ℕ) → AreFilledBut words some index → (get_or words index 0 ≡ 0 → ⊥) → get_or words index 0 < 2 ^ 64 → AreFilled words some
filled_some words some index but not_zero small m one =
    elim (cases_eq m index) [
      | inl is ↦ let found = some_bit words index (omega arith) small in (found.0, found.1 ∙ sym is, found.2)
      | inr far ↦ but m far one
    ]

pub filled_none : (words some new : List ℕ) (index : ℕ) → AreFilledBut words some index → ((m : ℕ) → has_bit new m ≡ (not (nat_eq m index) && has_bit some m)) → AreFilled words new
filled_none words some new index but less m one =
    elim (cases_eq m index) [
      | inl is ↦ absurd (true≢false (sym one ∙ without_here some new index m less is))
      | inr far ↦ but m far (sym (without_elsewhere some new index m less far) ∙ one)
    ]

pub counts_none : (words some new : List ℕ) (index : ℕ) → get_or words index 0 ≡ 0 → ((m : ℕ) → has_bit new m ≡ (not (nat_eq m index) && has_bit some m)) → (n : ℕ) → counts words new n ≡ counts words some n
unfolding counts
counts_none words some new index zero less n =
    elim (cases_eq (n / 64) index) [
      | inl is ↦ rw (without_here some new index (n / 64) less is, zero_word words n (ap (λ i. get_or words i 0) is ∙ zero)) (sym (and_false (has_bit some (n / 64))))
      | inr far ↦ rw (without_elsewhere some new index (n / 64) less far) refl
    ]

pub number_same : (words some new_words new_some full : List ℕ) → ((n : ℕ) → counts new_words new_some n ≡ counts words some n) → (n : ℕ) → has_number new_words new_some full n ≡ has_number words some full n
unfolding has_number
number_same words some new_words new_some full same n = ap (λ b. has_bit full (n / 64) || b) (same n)

-- ---- whole words

pub whole_added : (words some full new : List ℕ) (first last : ℕ) → Becomes true (has_bit full) (has_bit new) first last
    → Becomes true (has_number words some full) (has_number words some new) (first * 64) (last * 64)
unfolding has_number
whole_added words some full new first last b =
    record {
      within = λ n reached low. ap (λ x. x || counts words some n) (b.within (n / 64) (omega arith) (omega arith));
      others = λ n out. ap (λ x. x || counts words some n) (b.others (n / 64) (λ reached low. out (omega arith) (omega arith)));
    }

pub whole_taken : (words some full new_some new_full : List ℕ) (first last : ℕ) → Becomes false (has_bit some) (has_bit new_some) first last → Becomes false (has_bit full) (has_bit new_full) first last
    → Becomes false (has_number words some full) (has_number words new_some new_full) (first * 64) (last * 64)
unfolding counts has_number
whole_taken words some full new_some new_full first last s f =
    record {
      within = λ n reached low. rw (s.within (n / 64) (omega arith) (omega arith), f.within (n / 64) (omega arith) (omega arith)) refl;
      others = λ n out. rw (s.others (n / 64) (λ reached low. out (omega arith) (omega arith)), f.others (n / 64) (λ reached low. out (omega arith) (omega arith))) refl;
    }

-- ---- three parts of a range

pub all_parts : (value : Bool) (p q r s : ℕ → Bool) (from end first last : ℕ) → from ≤ first * 64 → first ≤ last → last * 64 ≤ end
    → Becomes value p q (first * 64) (last * 64) → Becomes value q r from (first * 64) → Becomes value r s (last * 64) end → Becomes value p s from end
all_parts value p q r s from end first last low middle high a b c =
    becomes_more value p r s from (last * 64) end (omega arith) high
    (becomes_before value p q r from (first * 64) (last * 64) low (omega arith) a b) c

-- ---- membership

pub full_number : (words some full : List ℕ) (n : ℕ) → has_bit full (n / 64) ≡ true → has_number words some full n ≡ true
unfolding has_number
full_number words some full n is = ap (λ b. b || counts words some n) is

pub counted_number : (words some full : List ℕ) (n : ℕ) → has_bit some (n / 64) ≡ true → has_bit words n ≡ true → has_number words some full n ≡ true
unfolding counts has_number
counted_number words some full n counted is = rw (counted, is) (or_true (has_bit full (n / 64)))

pub uncounted_number : (words some full : List ℕ) (n : ℕ) → has_bit full (n / 64) ≡ false → has_bit some (n / 64) ≡ false → has_number words some full n ≡ false
unfolding counts has_number
uncounted_number words some full n not_full uncounted = rw (not_full, uncounted) refl

pub absent_number : (words some full : List ℕ) (n : ℕ) → has_bit full (n / 64) ≡ false → has_bit words n ≡ false → has_number words some full n ≡ false
unfolding counts has_number
absent_number words some full n not_full is = rw (not_full, is) (and_false (has_bit some (n / 64)))

-- ---- whether a range has a member

pub none_meets : (test : ℕ → Bool) (from end : ℕ) → end ≤ from → NoneBetween test from end
none_meets test from end none n reached low = absurd (omega arith)

module _ (words some full : List ℕ) (from end : ℕ) (less : from < end) (one_word : end ≤ (from / 64 + 1) * 64) where
  pub full_meets : has_bit full (from / 64) ≡ true → SomeBetween (has_number words some full) from end
  full_meets is = (from, omega arith, less, full_number words some full from is)

  pub uncounted_meets : has_bit full (from / 64) ≡ false → has_bit some (from / 64) ≡ false → NoneBetween (has_number words some full) from end
  uncounted_meets not_full uncounted n reached low =
      let is : n / 64 ≡ from / 64 = omega arith in
      uncounted_number words some full n (ap (has_bit full) is ∙ not_full) (ap (has_bit some) is ∙ uncounted)

  pub counted_meets : has_bit full (from / 64) ≡ false → has_bit some (from / 64) ≡ true → (r : Option ℕ) (b : Bool) → is_some r ≡ b
      → IfNone r (NoneBetween (has_bit words) from end) → IfSome r (IsFirst (has_bit words) from end)
      → MatchBool b (SomeBetween (has_number words some full) from end) (NoneBetween (has_number words some full) from end)
  counted_meets not_full counted None true is none found = absurd (true≢false (sym is))
  counted_meets not_full counted None false is none found =
      λ n reached low.
      let at : n / 64 ≡ from / 64 = omega arith in
      absent_number words some full n (ap (has_bit full) at ∙ not_full) (none n reached low)
  counted_meets not_full counted (Some n) true is none found =
      let reached : from ≤ n = found.reached in
      let low : n < end = found.within in
      let at : n / 64 ≡ from / 64 = omega arith in
      (n, reached, low, counted_number words some full n (ap (has_bit some) at ∙ counted) found.passes)
  counted_meets not_full counted (Some n) false is none found = absurd (true≢false is)

-- the first valid word of a range of whole words
pub word_meets : (words some full : List ℕ) (first last : ℕ) → AreFilled words some → (r : Option ℕ) → is_some r ≡ true → IfSome r (IsFirst (has_bit some) first last) → SomeBetween (has_number words some full) (first * 64) (last * 64)
word_meets words some full first last filled None is found = absurd (true≢false (sym is))
word_meets words some full first last filled (Some m) is found =
    let there = filled m found.passes in
    let at : there.0 / 64 ≡ m = there.1 in
    let reached : first ≤ m = found.reached in
    let low : m < last = found.within in
    (there.0, omega arith, omega arith, counted_number words some full there.0 (ap (has_bit some) at ∙ found.passes) there.2)

pub words_meet : (words some full : List ℕ) (first last : ℕ) → (q : Option ℕ) → is_some q ≡ false → IfNone q (NoneBetween (has_bit some) first last)
    → (r : Option ℕ) (b : Bool) → is_some r ≡ b → IfNone r (NoneBetween (has_bit full) first last) → IfSome r (IsFirst (has_bit full) first last)
    → MatchBool b (SomeBetween (has_number words some full) (first * 64) (last * 64)) (NoneBetween (has_number words some full) (first * 64) (last * 64))
words_meet words some full first last (Some m) quiet uncounted r b is none found = absurd (true≢false quiet)
words_meet words some full first last None quiet uncounted None true is none found = absurd (true≢false (sym is))
words_meet words some full first last None quiet uncounted None false is none found =
    λ n reached low. uncounted_number words some full n (none (n / 64) (omega arith) (omega arith)) (uncounted (n / 64) (omega arith) (omega arith))
words_meet words some full first last None quiet uncounted (Some m) true is none found =
    let at : m * 64 / 64 ≡ m = omega arith in
    let reached : first ≤ m = found.reached in
    let low : m < last = found.within in
    (m * 64, omega arith, omega arith, full_number words some full (m * 64) (ap (has_bit full) at ∙ found.passes))
words_meet words some full first last None quiet uncounted (Some m) false is none found = absurd (true≢false is)

pub some_wider : (test : ℕ → Bool) (from end low high : ℕ) → low ≤ from → end ≤ high → SomeBetween test from end → SomeBetween test low high
some_wider test from end low high before after s = (s.0, (let r : from ≤ s.0 = s.1 in omega arith), (let l : s.0 < end = s.2 in omega arith), s.3)

pub all_meet : (test : ℕ → Bool) (from end first last : ℕ) → from ≤ first * 64 → first ≤ last → last * 64 ≤ end → NoneBetween test from (first * 64) → NoneBetween test (last * 64) end
    → (b : Bool) → MatchBool b (SomeBetween test (first * 64) (last * 64)) (NoneBetween test (first * 64) (last * 64)) → MatchBool b (SomeBetween test from end) (NoneBetween test from end)
all_meet test from end first last low middle high before after true s = some_wider test (first * 64) (last * 64) from end low high s
all_meet test from end first last low middle high before after false none =
    none_more test from (first * 64) end before (none_more test (first * 64) (last * 64) end none after)

pub same_meets : (test same : ℕ → Bool) (from end : ℕ) → ((n : ℕ) → same n ≡ test n) → (b : Bool) → MatchBool b (SomeBetween test from end) (NoneBetween test from end) → MatchBool b (SomeBetween same from end) (NoneBetween same from end)
same_meets test same from end is true s = (s.0, s.1, s.2, is s.0 ∙ s.3)
same_meets test same from end is false none = λ n reached low. is n ∙ none n reached low

-- ---- the invariant of the words

pub ranges_with : (words some full new_words new_some new_full : List ℕ) → AreRanges words some full → length new_words ≡ length words → length new_some ≡ length some → length new_full ≡ length full
    → AreFilled new_words new_some → ((m : ℕ) → has_bit new_full m ≡ true → m < length words) → AreRanges new_words new_some new_full
ranges_with words some full new_words new_some new_full are long long_some long_full filled whole =
    let short : length words ≤ 67108864 = are.short in
    let room_in_some : length words ≤ 64 * length some = are.room_in_some in
    let room_in_full : length words ≤ 64 * length full = are.room_in_full in
    record {
      short = omega arith;
      room_in_some = omega arith;
      room_in_full = omega arith;
      filled = filled;
      whole = λ m one. let inside = whole m one in omega arith;
    }

pub whole_with : (words some full new : List ℕ) (first last : ℕ) → AreRanges words some full → Becomes true (has_bit full) (has_bit new) first last → last ≤ length words → (m : ℕ) → has_bit new m ≡ true → m < length words
whole_with words some full new first last are b inside m one =
    elim (cases_lt m first) [
      | inl early ↦ are.whole m (sym (b.others m (λ r l. absurd (omega arith))) ∙ one)
      | inr reached ↦ elim (cases_lt m last) [
        | inl low ↦ omega arith
        | inr late ↦ are.whole m (sym (b.others m (λ r l. absurd (omega arith))) ∙ one)
      ]
    ]

-- cleared bits were set
pub fewer : (old new : List ℕ) (from end : ℕ) → Becomes false (has_bit old) (has_bit new) from end → (m : ℕ) → has_bit new m ≡ true → has_bit old m ≡ true
fewer old new from end b m one =
    elim (cases_lt m from) [
      | inl early ↦ sym (b.others m (λ r l. absurd (omega arith))) ∙ one
      | inr reached ↦ elim (cases_lt m end) [
        | inl low ↦ absurd (true≢false (sym one ∙ b.within m reached low))
        | inr late ↦ sym (b.others m (λ r l. absurd (omega arith))) ∙ one
      ]
    ]

pub fewer_filled : (words some new : List ℕ) → AreFilled words some → ((m : ℕ) → has_bit new m ≡ true → has_bit some m ≡ true) → AreFilled words new
fewer_filled words some new filled less m one = filled m (less m one)

-- ---- capacity

pub record Longer (old new : List ℕ) : Type 0 where
  pub longer : length old ≤ length new
  pub same : (n : ℕ) → has_bit new n ≡ has_bit old n

pub ranges_longer : (words some full new_words new_some new_full : List ℕ) → AreRanges words some full → Longer words new_words → Longer some new_some → Longer full new_full
    → length new_words ≤ 67108864 → length new_words ≤ 64 * length new_some → length new_words ≤ 64 * length new_full → AreRanges new_words new_some new_full
ranges_longer words some full new_words new_some new_full are w s f short room_in_some room_in_full =
    record {
      short = short;
      room_in_some = room_in_some;
      room_in_full = room_in_full;
      filled = λ m one. let there = are.filled m (sym (s.same m) ∙ one) in (there.0, there.1, w.same there.0 ∙ there.2);
      whole = λ m one. let inside = are.whole m (sym (f.same m) ∙ one) in let more = w.longer in omega arith;
    }

pub number_longer : (words some full new_words new_some new_full : List ℕ) → Longer words new_words → Longer some new_some → Longer full new_full → (n : ℕ) → has_number new_words new_some new_full n ≡ has_number words some full n
unfolding counts has_number
number_longer words some full new_words new_some new_full w s f n = rw (w.same n, s.same (n / 64), f.same (n / 64)) refl

pub unchanged : (words : List ℕ) → Longer words words
unchanged words = record { longer = omega arith; same = λ n. refl }

pub ranges_of_none : AreRanges [] [] []
ranges_of_none =
    record {
      short = omega arith;
      room_in_some = omega arith;
      room_in_full = omega arith;
      filled = λ m one. absurd (true≢false (sym one ∙ no_word [] m (omega arith)));
      whole = λ m one. absurd (true≢false (sym one ∙ no_word [] m (omega arith)));
    }

-- ---- the set

pub contains-numbers : (words some full : List ℕ) → AreRanges words some full → (n : ℕ) → set.contains (numbers words some full) n ≡ has_number words some full n
unfolding numbers counts has_number
contains-numbers words some full are n =
    contains_kept (has_number words some full) (64 * (64 * length full)) n
    (λ out.
    let room : length words ≤ 64 * length full = are.room_in_full in
    rw (no_word full (n / 64) (omega arith), no_word words n (omega arith)) (and_false (has_bit some (n / 64))))

pub same_numbers : (words some full new_words new_some new_full : List ℕ) → AreRanges words some full → AreRanges new_words new_some new_full
    → ((n : ℕ) → has_number new_words new_some new_full n ≡ has_number words some full n) → numbers new_words new_some new_full ≡ numbers words some full
same_numbers words some full new_words new_some new_full old new same =
    same_set nat_cmp_total nat_cmp-IsAntisymmetric _ _
    (λ n. contains-numbers new_words new_some new_full new n ∙ same n ∙ sym (contains-numbers words some full old n))

pub no_numbers : numbers [] [] [] ≡ set.empty
no_numbers =
    same_set nat_cmp_total nat_cmp-IsAntisymmetric _ _
    (λ n. contains-numbers [] [] [] ranges_of_none n ∙ uncounted_number [] [] [] n (no_word [] (n / 64) (omega arith)) (no_word [] (n / 64) (omega arith)) ∙ sym (contains-empty nat_cmp n))

-- the set of a test becomes that of the new test
pub set_becomes : (value : Bool) (words some full new_words new_some new_full : List ℕ) (from end : ℕ) → AreRanges words some full → AreRanges new_words new_some new_full
    → Becomes value (has_number words some full) (has_number new_words new_some new_full) from end
    → Becomes value (set.contains (numbers words some full)) (set.contains (numbers new_words new_some new_full)) from end
set_becomes value words some full new_words new_some new_full from end old new b =
    record {
      within = λ n reached low. contains-numbers new_words new_some new_full new n ∙ b.within n reached low;
      others = λ n out. contains-numbers new_words new_some new_full new n ∙ b.others n out ∙ sym (contains-numbers words some full old n);
    }

-- no number is past the words
past_words : (words some full : List ℕ) (n : ℕ) → AreRanges words some full → 64 * length words ≤ n → has_number words some full n ≡ false
past_words words some full n are past =
    absent_number words some full n
    (elim (cases_Bool (has_bit full (n / 64))) [
      | inl one ↦ let inside = are.whole (n / 64) one in absurd (omega arith)
      | inr none ↦ none
    ])
    (no_word words n (omega arith))

pub taken_within : (words some full new_words new_some new_full : List ℕ) (from end within : ℕ) → AreRanges words some full → AreRanges new_words new_some new_full → length new_words ≡ length words
    → within ≡ min end (64 * length words)
    → Becomes false (has_number words some full) (has_number new_words new_some new_full) from within → Becomes false (has_number words some full) (has_number new_words new_some new_full) from end
taken_within words some full new_words new_some new_full from end within old new long is b =
    record {
      within = λ n reached low. elim (cases_lt n within) [
        | inl inside ↦ b.within n reached inside
        | inr past ↦ past_words new_words new_some new_full n new (omega arith)
      ];
      others = λ n out. b.others n (λ reached low. out reached (omega arith));
    }

pub taken_nothing : (words some full : List ℕ) (from end : ℕ) → AreRanges words some full → min end (64 * length words) ≤ from → Becomes false (has_number words some full) (has_number words some full) from end
taken_nothing words some full from end are none =
    record {
      within = λ n reached low. past_words words some full n are (omega arith);
      others = λ n out. refl;
    }
