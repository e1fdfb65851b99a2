-- Sets of slots, slot by slot.
use Rattle.std.proofs.Common.{w64, ◌≡◌, ◌↔◌, ◌<◌, ◌≤◌, ◌+◌, ◌-◌, ◌/◌, ◌^◌, ◌⊎◌, inl, inr, ℕ, min, sym, ap, ◌∙◌, arith, subst}
use Rattle.std.proofs.lemmas.Bool.{cases_lt}
use Rattle.std.proofs.lemmas.Nat.Bits.{bit_at_above, bit_at_and, bit_at_not, bit_at_or, bit_at_ones, bit_at_ones_above, bit_at-lt, bit_at-zero, same_from_bits}
use Rattle.std.proofs.lemmas.Nat.{or_comm}
use Rattle.std.specs.Int.{bit_at}
use Rattle.std.specs.Int.Bits.{or_self}
use Rattle.std.specs.Int.RustNames.{bit_and, bit_or}
use Rattle.module_globals.specs.Slots.{IsIn, Meets, ContainsByDifference, ContainsBySlots, UnionBySlots, UnionsAgree, SlotsAreAll}

ones : (n k : ℕ) → IsIn (2 ^ n - 1) k ↔ (k < n)
ones n k = (
  (λ e. elim (cases_lt k n) [ inl lt ↦ lt | inr ge ↦ absurd (let z : bit_at (2 ^ n - 1) k ≡ 0 = bit_at_ones_above n k (let h = ge in omega arith) in omega (arith, z, e)) ]),
  (λ lt. bit_at_ones n k lt),
)

pub all_below : (bound k : ℕ) → 64 ≤ bound → k < 64 → IsIn (2 ^ 64 - 1) k ↔ (k < bound)
all_below bound k le lt = ((λ e. omega arith), (λ h. bit_at_ones 64 k lt))

pub some_below : (bound k : ℕ) → IsIn (2 ^ bound - 1) k ↔ (k < bound)
some_below bound k = ones bound k

-- ---- difference

pub and_not : (a b n k : ℕ) → bit_at n k ≡ 1 - bit_at b k → IsIn (bit_and a n) k ↔ (IsIn a k × ¬ IsIn b k)
and_not a b n k is =
    let both = bit_at_and a n k in
    let la = bit_at-lt a k in
    let lb = bit_at-lt b k in (
      (λ e. (let e2 = e in omega (arith, both, is, la, lb, e2), (λ f. absurd (let e2 = e in let f2 = f in omega (arith, both, is, la, lb, e2, f2))))),
      (λ h. let one = h.0 in elim (cases_lt (bit_at b k) 1) [ inl zero ↦ omega (arith, both, is, la, one, zero) | inr some ↦ absurd (h.1 (omega (arith, some, lb))) ]),
    )

-- the slots from that of the first byte to that of the last
pub met : (offset size k : ℕ) → 0 < size → ((k < (offset + size + 3) / 4) × ¬ (k < offset / 4)) ↔ Meets offset size k
met offset size k some = (
  (λ h. (some, (let lt = h.0 in omega (arith, lt)), elim (cases_lt k (offset / 4)) [ inl less ↦ absurd (h.1 less) | inr ge ↦ omega (arith, ge) ])),
  (λ h. ((let a = h.1 in omega (arith, a)), (λ less. absurd (let b = h.2 in omega (arith, b, less))))),
)

-- ---- laws

bits_from : (a b k : ℕ) → (IsIn a k → IsIn b k) → (IsIn b k → IsIn a k) → bit_at a k ≡ bit_at b k
bits_from a b k to from =
    let la = bit_at-lt a k in let lb = bit_at-lt b k in
    elim (cases_lt (bit_at a k) 1) [
      | inl zero ↦ elim (cases_lt (bit_at b k) 1) [ inl none ↦ omega (arith, zero, none) | inr one ↦ let h = from (omega (arith, one, lb)) in omega (arith, h, zero) ]
      | inr one ↦ let h = to (omega (arith, one, la)) in omega (arith, one, la, h)
    ]

pub slots_are_all : SlotsAreAll
slots_are_all a b same = same_from_bits a b (λ k. bits_from a b k (same k).0 (same k).1)

pub union_by_slots : UnionBySlots
union_by_slots a b k =
    let either = bit_at_or a b k in
    let la = bit_at-lt a k in
    let lb = bit_at-lt b k in (
      (λ e. elim (cases_lt (bit_at a k) 1) [ inl zero ↦ inr (let f = e in omega (arith, either, f, zero, lb)) | inr one ↦ inl (omega (arith, one, la)) ]),
      (λ h. elim h [ inl x ↦ omega (arith, either, x, lb) | inr y ↦ omega (arith, either, y, la) ]),
    )

-- a slot of the union of three sets is in one of them
in_left : (a b c k : ℕ) → IsIn (bit_or (bit_or a b) c) k ↔ ((IsIn a k ⊎ IsIn b k) ⊎ IsIn c k)
in_left a b c k = (
  (λ h. elim ((union_by_slots (bit_or a b) c k).0 h) [ inl x ↦ inl ((union_by_slots a b k).0 x) | inr y ↦ inr y ]),
  (λ h. (union_by_slots (bit_or a b) c k).1 (elim h [ inl x ↦ inl ((union_by_slots a b k).1 x) | inr y ↦ inr y ])),
)

in_right : (a b c k : ℕ) → IsIn (bit_or a (bit_or b c)) k ↔ (IsIn a k ⊎ (IsIn b k ⊎ IsIn c k))
in_right a b c k = (
  (λ h. elim ((union_by_slots a (bit_or b c) k).0 h) [ inl x ↦ inl x | inr y ↦ inr ((union_by_slots b c k).0 y) ]),
  (λ h. (union_by_slots a (bit_or b c) k).1 (elim h [ inl x ↦ inl x | inr y ↦ inr ((union_by_slots b c k).1 y) ])),
)

turned : {A B C : Type 0} → ((A ⊎ B) ⊎ C) → (A ⊎ (B ⊎ C))
turned (inl (inl a)) = inl a
turned (inl (inr b)) = inr (inl b)
turned (inr c) = inr (inr c)

back : {A B C : Type 0} → (A ⊎ (B ⊎ C)) → ((A ⊎ B) ⊎ C)
back (inl a) = inl (inl a)
back (inr (inl b)) = inl (inr b)
back (inr (inr c)) = inr c

pub unions_agree : UnionsAgree
unions_agree = record {
  associative = λ a b c. slots_are_all _ _ (λ k. ((λ h. (in_right a b c k).1 (turned ((in_left a b c k).0 h))), (λ h. (in_left a b c k).1 (back ((in_right a b c k).0 h)))));
  commutative = or_comm;
  idempotent = or_self;
}

pub contains_by_slots : ContainsBySlots
contains_by_slots a b = (
  (λ e k has. let f : min (bit_at a k) (bit_at b k) ≡ bit_at b k = sym (bit_at_and a b k) ∙ ap (λ s. bit_at s k) e in let la = bit_at-lt a k in omega (arith, f, la, has)),
  (λ each.
      same_from_bits (bit_and a b) b
      (λ k. let lb = bit_at-lt b k in
      bit_at_and a b k
      ∙ elim (cases_lt (bit_at b k) 1) [ inl zero ↦ omega (arith, zero) | inr one ↦ let h = each k (omega (arith, one, lb)) in omega (arith, h, one, lb) ])),
)

-- ---- sets of 64 bits

pub without : (a b k : ℕ) → b < 2 ^ 64 → k < 64 → IsIn (bit_and a (18446744073709551615 - b)) k ↔ (IsIn a k × ¬ IsIn b k)
without a b k fits lt = and_not a b (18446744073709551615 - b) k (bit_at_not w64 b k fits lt)

pub in_range : (offset size behind ahead k : ℕ) → 0 < size → ahead < 2 ^ 64 → k < 64 → IsIn behind k ↔ (k < (offset + size + 3) / 4) → IsIn ahead k ↔ (k < offset / 4)
    → IsIn (bit_and behind (18446744073709551615 - ahead)) k ↔ Meets offset size k
in_range offset size behind ahead k some fits lt last first =
    let both = without behind ahead k fits lt in
    let range = met offset size k some in (
      (λ e. let h = both.0 e in range.0 (last.0 h.0, (λ less. h.1 (first.1 less)))),
      (λ m. let h = range.1 m in both.1 (last.1 h.0, (λ has. h.1 (first.0 has)))),
    )

-- ---- emptiness of a difference

pub contains_by_difference : ContainsByDifference
contains_by_difference a b rest fits rest_fits is = (
  (λ whole. slots_are_all rest 0
      (λ k. (
        (λ has. elim (cases_lt k 64) [
          | inl lt ↦ absurd (((is k lt).0 has).1 ((contains_by_slots a b).0 whole k ((is k lt).0 has).0))
          | inr ge ↦ absurd (let z : bit_at rest k ≡ 0 = bit_at_above rest 64 k rest_fits ge in let h = has in omega (arith, z, h))
        ]),
        (λ none. absurd (let z : bit_at 0 k ≡ 0 = bit_at-zero k in let h = none in omega (arith, z, h))),
      ))),
  (λ empty. (contains_by_slots a b).1
      (λ k has. elim (cases_lt k 64) [
        | inl lt ↦ elim (cases_lt (bit_at a k) 1) [
          | inl zero ↦ absurd (let left : IsIn 0 k = subst (λ n. IsIn n k) empty ((is k lt).1 (has, (λ one. let h = one in omega (arith, zero, h)))) in let z : bit_at 0 k ≡ 0 = bit_at-zero k in omega (arith, z, left))
          | inr one ↦ let la = bit_at-lt a k in omega (arith, one, la)
        ]
        | inr ge ↦ absurd (let z : bit_at b k ≡ 0 = bit_at_above b 64 k fits ge in let h = has in omega (arith, z, h))
      ])),
)
