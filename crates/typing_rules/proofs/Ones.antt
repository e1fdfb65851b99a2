-- The one bits of an integer: their sum, their order, and their values.
use Rattle.std.proofs.Common.{◌≡◌, ◌<◌, ◌+◌, ◌*◌, ◌/◌, ◌%◌, ◌^◌, ◌==◌, ◌∙◌, ℕ, zero, suc, Bool, true, false, List, refl, ap, sym, subst, arith, rules, sum}
use Rattle.std.proofs.Math.Nat.{pow-succ', mul-suc, mul_assoc, mul_comm}
use Rattle.std.proofs.lemmas.List.Sums.{sum_by-cons}
use Rattle.typing_rules.specs.found.Bits.{put_if, chosen, powers, IsRisingFrom, ArePowersOfTwo}

-- ---- sums

half_below : (bits n : ℕ) → bits < 2 * n → bits / 2 < n
half_below bits n h = omega arith

sum_put : (b : Bool) (unit q bits : ℕ) (xs : List ℕ) → (b ≡ true → bits ≡ 1 + 2 * q) → (b ≡ false → bits ≡ 2 * q) → sum xs ≡ (2 * unit) * q → sum (put_if b unit xs) ≡ unit * bits
sum_put true unit q bits xs odd even e =
    let rest : sum xs ≡ unit * (2 * q) = (e ∙ ap (λ n. n * q) (mul_comm 2 unit)) ∙ mul_assoc unit 2 q in
    let whole : unit * suc (2 * q) ≡ unit * (2 * q) + unit = mul-suc unit (2 * q) in
    let more : bits ≡ suc (2 * q) = let o = odd refl in omega (arith, o) in
    let both : unit + sum xs ≡ unit * suc (2 * q) = omega (arith, rest, whole) in
    (sum_by-cons (λ n. n) unit xs ∙ both) ∙ ap (λ n. unit * n) (sym more)
sum_put false unit q bits xs odd even e = ((e ∙ ap (λ n. n * q) (mul_comm 2 unit)) ∙ mul_assoc unit 2 q) ∙ ap (λ n. unit * n) (sym (even refl))

is_odd : (bits : ℕ) → (bits % 2 == 1) ≡ true → bits ≡ 1 + 2 * (bits / 2)
is_odd bits h = let r : bits % 2 ≡ 1 = search (rules, h) in omega (arith, r)

is_even : (bits : ℕ) → (bits % 2 == 1) ≡ false → bits ≡ 2 * (bits / 2)
is_even bits h = let r : (bits % 2 ≡ 1) → ⊥ = search (rules, h) in omega (arith, r)

sum_chosen : (count unit bits : ℕ) → bits < 2 ^ count → sum (chosen bits (powers unit count)) ≡ unit * bits
sum_chosen zero unit bits h = let z : bits ≡ 0 = omega (arith, h) in rw z (omega arith)
sum_chosen (suc c) unit bits h =
    let p : bits < 2 * 2 ^ c = subst (λ (n : ℕ). bits < n) (pow-succ' 2 c) h in
    sum_put (bits % 2 == 1) unit (bits / 2) bits (chosen (bits / 2) (powers (2 * unit) c)) (is_odd bits) (is_even bits) (sum_chosen c (2 * unit) (bits / 2) (half_below bits (2 ^ c) p))

pub sum_of_ones : (bits : ℕ) → bits < 2 ^ 64 → sum (chosen bits (powers 1 64)) ≡ bits
sum_of_ones bits h = sum_chosen 64 1 bits h ∙ omega arith

-- ---- order

rising_put : (b : Bool) (n unit : ℕ) (xs : List ℕ) → n < unit → IsRisingFrom unit xs → IsRisingFrom n xs → IsRisingFrom n (put_if b unit xs)
rising_put true n unit xs h k l = (h, k)
rising_put false n unit xs h k l = l

rising_chosen : (count n unit bits : ℕ) → n < unit → IsRisingFrom n (chosen bits (powers unit count))
rising_chosen zero n unit bits h = tt
rising_chosen (suc c) n unit bits h =
    rising_put (bits % 2 == 1) n unit (chosen (bits / 2) (powers (2 * unit) c)) h (rising_chosen c unit (2 * unit) (bits / 2) (omega arith)) (rising_chosen c n (2 * unit) (bits / 2) (omega arith))

pub rising_ones : (bits : ℕ) → IsRisingFrom 0 (chosen bits (powers 1 64))
rising_ones bits = rising_chosen 64 0 1 bits (omega arith)

-- ---- powers of two

powers_put : (b : Bool) (k unit : ℕ) (xs : List ℕ) → unit ≡ 2 ^ k → ArePowersOfTwo xs → ArePowersOfTwo (put_if b unit xs)
powers_put true k unit xs e h = ((k, e), h)
powers_put false k unit xs e h = h

powers_chosen : (count k unit bits : ℕ) → unit ≡ 2 ^ k → ArePowersOfTwo (chosen bits (powers unit count))
powers_chosen zero k unit bits e = tt
powers_chosen (suc c) k unit bits e =
    powers_put (bits % 2 == 1) k unit (chosen (bits / 2) (powers (2 * unit) c)) e (powers_chosen c (suc k) (2 * unit) (bits / 2) (ap (λ n. 2 * n) e ∙ sym (pow-succ' 2 k)))

pub powers_of_ones : (bits : ℕ) → ArePowersOfTwo (chosen bits (powers 1 64))
powers_of_ones bits = powers_chosen 64 0 1 bits refl
