-- The bits of words.
use Rattle.std.proofs.Common.{◌≡◌, ℕ, zero, suc, ◌+◌, ◌-◌, ◌*◌, ◌/◌, ◌%◌, ◌^◌, ◌<◌, ◌≤◌, Bool, true, false, not, ◌&&◌, ◌||◌, List, [], ◌∷◌, ◌++◌, length, get_or, take, set, replicate, filter, nat_eq, count_ones, true≢false, bit_and, bit_or, refl, sym, ap, inl, inr, ◌∙◌, arith, w64, pow_pos, pow-suc, pow_mono, mod-eq_of_lt}
use Rattle.std.specs.Int.{bit_at, trailing_zeros}
use Rattle.std.specs.Int.Count.{ones_step, ones-le}
use Rattle.std.specs.List.{range_with_len}
use Rattle.std.proofs.lemmas.Bool.{cases_eq, cases_lt, eq-eqb, ne_eqb}
use Rattle.std.proofs.lemmas.List.{get_or_past, get_or_append_left, get_or-append_right, get_or-replicate, get_or-set_same, get_or-set_other, get_or_at, get_or-take, length-take, length-take-le, length-append, length-replicate}
use Rattle.std.proofs.lemmas.List.Elements.{filter-append}
use Rattle.std.proofs.lemmas.List.FromFn.{length-range_with_len}
use Rattle.std.proofs.lemmas.List.Filters.{length-filter_both}
use Rattle.std.proofs.lemmas.Nat.{shr-shr, le-div, div_below, shr_below}
use Rattle.std.proofs.Math.Pow.{high_ones}
use Rattle.std.proofs.lemmas.Nat.Bits.{bit_at-zero, bit_at-suc, bit_at_lowest, shr_and_one, bit_at_above, bit_at_set_same, bit_at_set_other, bit_at_clear_same, bit_at_clear_other, bit_at_or, bit_at_and, bit_at_not, bit_at-lt, bit_at_mask_inside, bit_at_mask_below, bit_at_mask_above, bit_at-trailing_zeros, ones_shr}
use Rattle.ir_sets.specs.Bits.{has_bit, Becomes, bits_from, NoneBetween, IsFirst, IsGreatest, IsTrimmed}

-- ---- one bit

pub read_bit : (words : List ℕ) (word n : ℕ) → word ≡ get_or words (n / 64) 0 → nat_eq (bit_and (word / 2 ^ (n % 64)) 1) 1 ≡ has_bit words n
unfolding has_bit
read_bit words word n is = ap (λ b. nat_eq b 1) (shr_and_one word (n % 64) ∙ ap (λ w. bit_at w (n % 64)) is)

pub no_word : (words : List ℕ) (n : ℕ) → length words ≤ n / 64 → has_bit words n ≡ false
unfolding has_bit
no_word words n out = ap (λ w. nat_eq (bit_at w (n % 64)) 1) (get_or_past words (n / 64) 0 out) ∙ ap (λ b. nat_eq b 1) (bit_at-zero (n % 64))

pub same_word : (xs ys : List ℕ) (n : ℕ) → get_or xs (n / 64) 0 ≡ get_or ys (n / 64) 0 → has_bit xs n ≡ has_bit ys n
unfolding has_bit
same_word xs ys n is = ap (λ w. nat_eq (bit_at w (n % 64)) 1) is

apart : (n m : ℕ) → n / 64 ≡ m / 64 → n % 64 ≡ m % 64 → n ≡ m
apart n m word place = omega arith

module _ (words : List ℕ) (number : ℕ) where
  pub inserted : number < 64 * length words → (n : ℕ)
      → has_bit (set words (number / 64) (bit_or (get_or words (number / 64) 0) (1 * 2 ^ (number % 64) % 2 ^ 64))) n ≡ (nat_eq n number || has_bit words n)
  unfolding has_bit
  inserted within n =
      let w : ℕ = get_or words (number / 64) 0 in
      let more : ℕ = bit_or w (1 * 2 ^ (number % 64) % 2 ^ 64) in
      let inside : number / 64 < length words = omega arith in
      let low : number % 64 < 64 = omega arith in
      elim (cases_eq (n / 64) (number / 64)) [
        | inl here ↦
            rw (here, get_or-set_same words (number / 64) more 0 inside)
            (elim (cases_eq (n % 64) (number % 64)) [
              | inl same ↦
                  rw (same, eq-eqb n number (apart n number here same)) (ap (λ b. nat_eq b 1) (bit_at_set_same w64 w (number % 64) low))
              | inr other ↦
                  rw (ne_eqb n number (λ e. other (ap (λ x. x % 64) e))) (ap (λ b. nat_eq b 1) (bit_at_set_other w64 w (number % 64) low (n % 64) other))
            ])
        | inr far ↦
            rw (get_or-set_other words (number / 64) (n / 64) more 0 far, ne_eqb n number (λ e. far (ap (λ x. x / 64) e))) refl
      ]

  pub removed : number / 64 < length words → (n : ℕ)
      → has_bit (set words (number / 64) (bit_and (get_or words (number / 64) 0) (2 ^ 64 - 1 - 1 * 2 ^ (number % 64) % 2 ^ 64))) n ≡ (not (nat_eq n number) && has_bit words n)
  unfolding has_bit
  removed inside n =
      let w : ℕ = get_or words (number / 64) 0 in
      let less : ℕ = bit_and w (2 ^ 64 - 1 - 1 * 2 ^ (number % 64) % 2 ^ 64) in
      let low : number % 64 < 64 = omega arith in
      elim (cases_eq (n / 64) (number / 64)) [
        | inl here ↦
            rw (here, get_or-set_same words (number / 64) less 0 inside)
            (elim (cases_eq (n % 64) (number % 64)) [
              | inl same ↦
                  rw (same, eq-eqb n number (apart n number here same)) (ap (λ b. nat_eq b 1) (bit_at_clear_same w64 w (number % 64) low))
              | inr other ↦
                  let small : n % 64 < 64 = omega arith in
                  rw (ne_eqb n number (λ e. other (ap (λ x. x % 64) e))) (ap (λ b. nat_eq b 1) (bit_at_clear_other w64 w (number % 64) low (n % 64) small other))
            ])
        | inr far ↦
            rw (get_or-set_other words (number / 64) (n / 64) less 0 far, ne_eqb n number (λ e. far (ap (λ x. x / 64) e))) refl
      ]

  pub not_there : length words ≤ number / 64 → (n : ℕ) → has_bit words n ≡ (not (nat_eq n number) && has_bit words n)
  not_there out n =
      elim (cases_eq n number) [
        | inl same ↦ rw (eq-eqb n number same, same) (no_word words number out)
        | inr other ↦ rw (ne_eqb n number other) refl
      ]

-- zero words that are appended
pub longer : (words : List ℕ) (count n : ℕ) → has_bit (words ++ replicate count 0) n ≡ has_bit words n
longer words count n =
    same_word (words ++ replicate count 0) words n
    (elim (cases_lt (n / 64) (length words)) [
      | inl inside ↦ get_or_append_left words (replicate count 0) 0 (n / 64) inside
      | inr out ↦
          get_or-append_right words (replicate count 0) (length words) (n / 64) 0 refl out
          ∙ elim (cases_lt (n / 64 - length words) count) [
            | inl filled ↦ get_or-replicate count (n / 64 - length words) 0 0 filled
            | inr past ↦ get_or_past (replicate count 0) (n / 64 - length words) 0 (omega (arith, length-replicate {A = ℕ} count 0))
          ] ∙ sym (get_or_past words (n / 64) 0 out)
    ])

-- ---- a range of bits

mask_fits : (low high : ℕ) → high ≤ 64 → 2 ^ high - 2 ^ low < 2 ^ 64
mask_fits low high most = let whole : 2 ^ high ≤ 2 ^ 64 = pow_mono most in omega (arith, pow_pos low, pow_pos high)

-- the mask of a part of a word
pub mask_is : (low high : ℕ) → low < high → high ≤ 64 → (2 ^ 64 - 1) / 2 ^ (64 - (high - low)) * 2 ^ low % 2 ^ 64 ≡ 2 ^ high - 2 ^ low
mask_is low high less most =
    let count : ℕ = high - low in
    let short : (2 ^ 64 - 1) / 2 ^ (64 - count) ≡ 2 ^ (64 - (64 - count)) - 1 = ones_shr 64 (64 - count) (omega arith) in
    let back : 64 - (64 - count) ≡ count = omega arith in
    let up : count + low ≡ high = omega arith in
    let is : (2 ^ count - 1) * 2 ^ low ≡ 2 ^ high - 2 ^ low = sym (high_ones count low) ∙ ap (λ k. 2 ^ k - 2 ^ low) up in
    ap (λ x. x * 2 ^ low % 2 ^ 64) (short ∙ ap (λ k. 2 ^ k - 1) back) ∙ ap (λ x. x % 2 ^ 64) is ∙ mod-eq_of_lt (mask_fits low high most)

outside : (low high i : ℕ) → (low ≤ i → i < high → ⊥) → bit_at (2 ^ high - 2 ^ low) i ≡ 0
outside low high i out =
    elim (cases_lt i low) [
      | inl early ↦ bit_at_mask_below low high i early
      | inr reached ↦ elim (cases_lt i high) [ inl within ↦ absurd (out reached within) | inr late ↦ bit_at_mask_above low high i late ]
    ]

module _ (words : List ℕ) (place next : ℕ) (before : place < next) (within : next ≤ (place / 64 + 1) * 64) (inside : place / 64 < length words) where
  -- a word of which only the bits in a range are changed
  changed : (word : ℕ) (bit : Bool)
      → ((i : ℕ) → i < 64 → place % 64 ≤ i → i < next - place / 64 * 64 → nat_eq (bit_at word i) 1 ≡ bit)
      → ((i : ℕ) → i < 64 → (place % 64 ≤ i → i < next - place / 64 * 64 → ⊥) → bit_at word i ≡ bit_at (get_or words (place / 64) 0) i)
      → ((n : ℕ) → place ≤ n → n < next → has_bit (set words (place / 64) word) n ≡ bit)
      × ((n : ℕ) → (place ≤ n → n < next → ⊥) → has_bit (set words (place / 64) word) n ≡ has_bit words n)
  unfolding has_bit
  changed word bit inner outer =
      let here : (n : ℕ) → n / 64 ≡ place / 64 → get_or (set words (place / 64) word) (n / 64) 0 ≡ word =
      λ n is. rw is (get_or-set_same words (place / 64) word 0 inside) in (
        λ n reached low.
            let is : n / 64 ≡ place / 64 = omega arith in
            rw (here n is) (inner (n % 64) (omega arith) (omega arith) (omega arith)),
        λ n out.
            elim (cases_eq (n / 64) (place / 64)) [
              | inl is ↦
                  rw (here n is, outer (n % 64) (omega arith) (λ reached low. out (omega arith) (omega arith)), is) refl
              | inr far ↦ rw (get_or-set_other words (place / 64) (n / 64) word 0 far) refl
            ],
      )

  pub added_part : (mask : ℕ) → mask ≡ 2 ^ (next - place / 64 * 64) - 2 ^ (place % 64) → Becomes true (has_bit words) (has_bit (set words (place / 64) (bit_or (get_or words (place / 64) 0) mask))) place next
  added_part mask is =
      let w : ℕ = get_or words (place / 64) 0 in
      let parts = changed (bit_or w mask) true
      (λ i low from to.
      let one : bit_at mask i ≡ 1 = rw is (bit_at_mask_inside (place % 64) (next - place / 64 * 64) i from to) in
      ap (λ b. nat_eq b 1) (let e : bit_at (bit_or w mask) i ≡ 1 = omega (arith, bit_at_or w mask i, bit_at-lt w i) in e))
      (λ i low out.
      let none : bit_at mask i ≡ 0 = rw is (outside (place % 64) (next - place / 64 * 64) i out) in
      omega (arith, bit_at_or w mask i)) in
      record { within = parts.0; others = parts.1 }

  pub taken_part : (mask : ℕ) → mask ≡ 2 ^ (next - place / 64 * 64) - 2 ^ (place % 64) → Becomes false (has_bit words) (has_bit (set words (place / 64) (bit_and (get_or words (place / 64) 0) (2 ^ 64 - 1 - mask)))) place next
  taken_part mask is =
      let w : ℕ = get_or words (place / 64) 0 in
      let fits : mask < 2 ^ 64 = rw is (mask_fits (place % 64) (next - place / 64 * 64) (omega arith)) in
      let parts = changed (bit_and w (2 ^ 64 - 1 - mask)) false
      (λ i low from to.
      let one : bit_at mask i ≡ 1 = rw is (bit_at_mask_inside (place % 64) (next - place / 64 * 64) i from to) in
      ap (λ b. nat_eq b 1) (let e : bit_at (bit_and w (2 ^ 64 - 1 - mask)) i ≡ 0 = omega (arith, bit_at_and w (2 ^ 64 - 1 - mask) i, bit_at_not w64 mask i fits low) in e))
      (λ i low out.
      let none : bit_at mask i ≡ 0 = rw is (outside (place % 64) (next - place / 64 * 64) i out) in
      omega (arith, bit_at_and w (2 ^ 64 - 1 - mask) i, bit_at_not w64 mask i fits low, bit_at-lt w i)) in
      record { within = parts.0; others = parts.1 }

module _ (value : Bool) (old now new : ℕ → Bool) (from place next : ℕ) (reached : from ≤ place) (before : place ≤ next) where
  -- a range, and then the one after it
  pub becomes_more : Becomes value old now from place → Becomes value now new place next → Becomes value old new from next
  becomes_more early late =
      record {
        within = λ n low high. elim (cases_lt n place) [
          | inl first ↦ late.others n (λ l h. absurd (omega arith)) ∙ early.within n low first
          | inr second ↦ late.within n second high
        ];
        others = λ n out. late.others n (λ l h. out (omega arith) h) ∙ early.others n (λ l h. out l (omega arith));
      }

  -- a range, and then the one before it
  pub becomes_before : Becomes value old now place next → Becomes value now new from place → Becomes value old new from next
  becomes_before late early =
      record {
        within = λ n low high. elim (cases_lt n place) [
          | inl first ↦ early.within n low first
          | inr second ↦ early.others n (λ l h. absurd (omega arith)) ∙ late.within n second high
        ];
        others = λ n out. early.others n (λ l h. out l (omega arith)) ∙ late.others n (λ l h. out (omega arith) h);
      }

-- ---- the first set bit from an index on

module _ (words : List ℕ) (place word : ℕ) (is : word ≡ get_or words (place / 64) 0) (fits : word < 2 ^ 64) where
  -- the bits of the word from the index on
  ahead : (t : ℕ) → place % 64 + t < 64 → has_bit words (place + t) ≡ nat_eq (bit_at (word / 2 ^ (place % 64)) t) 1
  unfolding has_bit
  ahead t low =
      let same : (place + t) / 64 ≡ place / 64 = omega arith in
      let at : (place + t) % 64 ≡ place % 64 + t = omega arith in
      rw (same, at, ← is) (ap (λ b. nat_eq b 1) (sym (ap (λ x. x % 2) (shr-shr word (place % 64) t))))

  pub none_left : word / 2 ^ (place % 64) ≡ 0 → NoneBetween (has_bit words) place ((place / 64 + 1) * 64)
  none_left rest n reached within =
      let sum : place + (n - place) ≡ n = omega arith in
      rw (← sum) (ahead (n - place) (omega arith) ∙ ap (λ x. nat_eq (bit_at x (n - place)) 1) rest ∙ ap (λ b. nat_eq b 1) (bit_at-zero (n - place)))

  pub record FirstLeft (t : ℕ) : Type 0 where
    pub set : has_bit words (place + t) ≡ true
    pub before : NoneBetween (has_bit words) place (place + t)

  pub first_left : (t : ℕ) → (t < 64) × (bit_at (word / 2 ^ (place % 64)) t ≡ 1) × ((i : ℕ) → i < t → bit_at (word / 2 ^ (place % 64)) i ≡ 0) → FirstLeft t
  first_left t lowest =
      let rest : ℕ = word / 2 ^ (place % 64) in
      let low : place % 64 + t < 64 =
      elim (cases_lt (place % 64 + t) 64) [
        | inl low ↦ low
        | inr high ↦
            let up : 64 - place % 64 + place % 64 ≡ 64 = omega arith in
            let small : rest < 2 ^ (64 - place % 64) = shr_below word (64 - place % 64) (place % 64) (rw up fits) in
            let none : bit_at rest t ≡ 0 = bit_at_above rest (64 - place % 64) t small (omega arith) in
            absurd (omega (arith, none, lowest.1))
      ] in
      record {
        set = ahead t low ∙ ap (λ b. nat_eq b 1) lowest.1;
        before = λ n reached within.
            let sum : place + (n - place) ≡ n = omega arith in
            rw (← sum) (ahead (n - place) (omega arith) ∙ ap (λ b. nat_eq b 1) (lowest.2 (n - place) (omega arith)));
      }

pub none_more : (test : ℕ → Bool) (from middle end : ℕ) → NoneBetween test from middle → NoneBetween test middle end → NoneBetween test from end
none_more test from middle end early late n reached within =
    elim (cases_lt n middle) [ inl before ↦ early n reached before | inr after ↦ late n after within ]

pub none_past : (words : List ℕ) (place end : ℕ) → length words ≤ place / 64 → NoneBetween (has_bit words) place end
none_past words place end out n reached within = no_word words n (omega arith)

-- ---- the greatest set bit

module _ (before : List ℕ) (last high : ℕ) (least : 2 ^ high ≤ last) (most : last < 2 * 2 ^ high) (low : high < 64) where
  last_word : get_or (before ++ last ∷ []) (length before) 0 ≡ last
  last_word = get_or_at before last [] 0 (length before) refl

  top_bit : bit_at last high ≡ 1
  top_bit =
      let up : 1 ≤ last / 2 ^ high = le-div 1 last (2 ^ high) (pow_pos high) (omega arith) in
      let down : last / 2 ^ high < 2 = div_below last (2 ^ high) 2 (pow_pos high) most in
      let one : last / 2 ^ high ≡ 1 = omega arith in
      ap (λ x. x % 2) one

  above : (q : ℕ) → length before * 64 + high < q → has_bit (before ++ last ∷ []) q ≡ false
  unfolding has_bit
  above q more =
      elim (cases_eq (q / 64) (length before)) [
        | inl here ↦ rw (here, last_word) (ap (λ b. nat_eq b 1) (bit_at_above last (suc high) (q % 64) (omega (arith, pow-suc 2 high)) (omega arith)))
        | inr far ↦ no_word (before ++ last ∷ []) q (omega (arith, length-append before (last ∷ [])))
      ]

  pub last_bit : IsGreatest (before ++ last ∷ []) (length before * 64 + high)
  unfolding has_bit
  last_bit =
      let at : (length before * 64 + high) / 64 ≡ length before = omega arith in
      let place : (length before * 64 + high) % 64 ≡ high = omega arith in
      record {
        set = rw (at, place, last_word) (ap (λ b. nat_eq b 1) top_bit);
        last = λ q one. elim (cases_lt (length before * 64 + high) q) [
          | inl more ↦ absurd (true≢false (sym one ∙ above q more))
          | inr le ↦ le
        ];
      }

-- ---- the number of set bits

pub range_split : (a n m : ℕ) → range_with_len a (n + m) ≡ range_with_len a n ++ range_with_len (a + n) m
range_split a zero m = let none : zero + m ≡ m = omega arith in let same : a + zero ≡ a = omega arith in rw (none, same) refl
range_split a (suc n) m =
    let more : suc n + m ≡ suc (n + m) = omega arith in
    let on : a + 1 + n ≡ a + suc n = omega arith in
    rw more (ap (λ l. a ∷ l) (range_split (a + 1) n m ∙ ap (λ b. range_with_len (a + 1) n ++ range_with_len b m) on))

-- a number below 2 ^ k has as many ones as there are set bits below k
ones_of : (k word from : ℕ) (p : ℕ → Bool) → word < 2 ^ k → ((t : ℕ) → t < k → p (from + t) ≡ nat_eq (bit_at word t) 1) → length (filter p (range_with_len from k)) ≡ count_ones word
ones_of zero word from p small tells = omega (arith, ones-le 0 word small)
ones_of (suc k) word from p small tells =
    let first : p from ≡ nat_eq (word % 2) 1 = ap p (let e : from ≡ from + 0 = omega arith in e) ∙ tells 0 (omega arith) ∙ ap (λ b. nat_eq b 1) (bit_at_lowest word) in
    let rest : length (filter p (range_with_len (from + 1) k)) ≡ count_ones (word / 2) =
    ones_of k (word / 2) (from + 1) p (omega (arith, pow-suc 2 k))
    (λ t low. ap p (let e : from + 1 + t ≡ from + suc t = omega arith in e) ∙ tells (suc t) (omega arith) ∙ ap (λ b. nat_eq b 1) (bit_at-suc word t)) in
    elim (cases_eq (word % 2) 1) [
      | inl odd ↦ rw (first, eq-eqb (word % 2) 1 odd) (omega (arith, rest, ones_step word))
      | inr even ↦ rw (first, ne_eqb (word % 2) 1 even) (omega (arith, rest, ones_step word))
    ]

of_word : (words : List ℕ) (i word k : ℕ) → k ≡ 64 → word ≡ get_or words i 0 → word < 2 ^ k → length (bits_from words (k * i) k) ≡ count_ones word
unfolding has_bit
of_word words i word k whole is small =
    ones_of k word (k * i) (has_bit words) small
    (λ t low.
    let at : (k * i + t) / 64 ≡ i = rw whole (omega arith) in
    let place : (k * i + t) % 64 ≡ t = rw whole (omega arith) in
    rw (at, place, ← is) refl)

more_words : (words : List ℕ) (i word k : ℕ) → k ≡ 64 → word ≡ get_or words i 0 → word < 2 ^ k → length (bits_from words 0 (k * (i + 1))) ≡ length (bits_from words 0 (k * i)) + count_ones word
more_words words i word k whole is small =
    let sum : k * (i + 1) ≡ k * i + k = omega arith in
    let from : 0 + k * i ≡ k * i = omega arith in
    ap (λ n. length (bits_from words 0 n)) sum
    ∙ ap (λ l. length (filter (has_bit words) l)) (range_split 0 (k * i) k)
    ∙ ap length (filter-append (has_bit words) (range_with_len 0 (k * i)) (range_with_len (0 + k * i) k))
    ∙ length-append (bits_from words 0 (k * i)) (bits_from words (0 + k * i) k)
    ∙ ap (λ a. length (bits_from words 0 (k * i)) + length (bits_from words a k)) from
    ∙ ap (λ n. length (bits_from words 0 (k * i)) + n) (of_word words i word k whole is small)

pub count_more : (words : List ℕ) (i : ℕ) → get_or words i 0 < 2 ^ 64 → length (bits_from words 0 (64 * (i + 1))) ≡ length (bits_from words 0 (64 * i)) + count_ones (get_or words i 0)
count_more words i small = more_words words i (get_or words i 0) 64 refl refl small

kept_at_most : (p : ℕ → Bool) (xs : List ℕ) → length (filter p xs) ≤ length xs
kept_at_most p xs = omega (arith, length-filter_both p (λ x. not (p x)) (λ x. refl) xs)

pub count_most : (words : List ℕ) (from count : ℕ) → length (bits_from words from count) ≤ count
count_most words from count = omega (arith, kept_at_most (has_bit words) (range_with_len from count), length-range_with_len from count)

-- ---- the words up to the last one that is not 0

pub front_bits : (words : List ℕ) (count : ℕ) → ((k : ℕ) → count ≤ k → get_or words k 0 ≡ 0) → (n : ℕ) → has_bit (take count words) n ≡ has_bit words n
front_bits words count zeros n =
    same_word (take count words) words n
    (elim (cases_lt (n / 64) count) [
      | inl inside ↦ get_or-take count words (n / 64) 0 inside
      | inr out ↦ get_or_past (take count words) (n / 64) 0 (omega (arith, length-take count words)) ∙ sym (zeros (n / 64) out)
    ])

-- a word that is not 0 has a set bit
pub some_bit : (words : List ℕ) (i : ℕ) → 0 < get_or words i 0 → get_or words i 0 < 2 ^ 64 → (n : ℕ) × (n / 64 ≡ i) × (has_bit words n ≡ true)
unfolding has_bit
some_bit words i some small =
    let lowest = bit_at-trailing_zeros w64 (get_or words i 0) some small in
    let place : ℕ = trailing_zeros w64 (get_or words i 0) in
    let low : place < 64 = lowest.0 in
    let at : (64 * i + place) / 64 ≡ i = omega arith in
    let bit : (64 * i + place) % 64 ≡ place = omega arith in
    (64 * i + place, at, rw (at, bit) (ap (λ b. nat_eq b 1) lowest.1))

pub front_trimmed : (words new : List ℕ) (count : ℕ) → new ≡ take count words → count ≤ length words → (0 < count → get_or words (count - 1) 0 ≡ 0 → ⊥)
    → ((k : ℕ) (d : ℕ) → k < length new → get_or new k d < 2 ^ 64) → IsTrimmed new
front_trimmed words new count front within some small long =
    let is : length new ≡ count = ap length front ∙ length-take-le count words within in
    let more : 0 < count = omega arith in
    let not_zero : get_or words (count - 1) 0 ≡ 0 → ⊥ = some more in
    let same : get_or new (count - 1) 0 ≡ get_or words (count - 1) 0 = rw front (get_or-take count words (count - 1) 0 (omega arith)) in
    let found = some_bit new (count - 1) (omega arith) (small (count - 1) 0 (omega arith)) in
    (found.0, omega (arith, found.1), found.2)

pub last_some : (words before : List ℕ) (last : ℕ) → words ≡ before ++ last ∷ [] → IsTrimmed words → 0 < last
unfolding has_bit
last_some words before last is trimmed =
    let long : length words ≡ length before + 1 = ap length is ∙ length-append before (last ∷ []) in
    let found = trimmed (omega arith) in
    let at : found.0 / 64 ≡ length before = omega (arith, found.1) in
    let word : get_or words (found.0 / 64) 0 ≡ last = rw (at, is) (get_or_at before last [] 0 (length before) refl) in
    elim (cases_eq last 0) [
      | inl none ↦ absurd (true≢false (sym found.2 ∙ ap (λ w. nat_eq (bit_at w (found.0 % 64)) 1) (word ∙ none) ∙ ap (λ b. nat_eq b 1) (bit_at-zero (found.0 % 64))))
      | inr some ↦ omega arith
    ]

-- ---- in order, from an index on

none_kept : (p : ℕ → Bool) (from count : ℕ) → ((n : ℕ) → from ≤ n → n < from + count → p n ≡ false) → filter p (range_with_len from count) ≡ []
none_kept p from zero none = refl
none_kept p from (suc count) none = rw (none from (omega arith) (omega arith)) (none_kept p (from + 1) count (λ n reached within. none n (omega arith) (omega arith)))

first_kept : (p : ℕ → Bool) (from skipped rest : ℕ) → ((n : ℕ) → from ≤ n → n < from + skipped → p n ≡ false) → p (from + skipped) ≡ true
    → filter p (range_with_len from (skipped + suc rest)) ≡ (from + skipped) ∷ filter p (range_with_len (from + skipped + 1) rest)
first_kept p from skipped rest none one =
    ap (filter p) (range_split from skipped (suc rest)) ∙ filter-append p (range_with_len from skipped) (range_with_len (from + skipped) (suc rest))
    ∙ ap (λ l. l ++ filter p (range_with_len (from + skipped) (suc rest))) (none_kept p from skipped none)
    ∙ rw one refl

pub none_to_come : (words : List ℕ) (from end : ℕ) → NoneBetween (has_bit words) from end → bits_from words from (end - from) ≡ []
none_to_come words from end none = none_kept (has_bit words) from (end - from) (λ n reached within. none n reached (omega arith))

pub first_to_come : (words : List ℕ) (from end n : ℕ) → IsFirst (has_bit words) from end n → bits_from words from (end - from) ≡ n ∷ bits_from words (n + 1) (end - (n + 1))
first_to_come words from end n first =
    let reached : from ≤ n = first.reached in
    let within : n < end = first.within in
    let count : end - from ≡ (n - from) + suc (end - (n + 1)) = omega arith in
    let at : from + (n - from) ≡ n = omega arith in
    ap (bits_from words from) count
    ∙ first_kept (has_bit words) from (n - from) (end - (n + 1)) (λ q low high. first.before q low (omega arith)) (rw at first.passes)
    ∙ ap (λ m. m ∷ bits_from words (m + 1) (end - (n + 1))) at
