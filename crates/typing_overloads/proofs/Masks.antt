-- The intersection of two bit sets: its members are the first set's members that the test keeps.
use Rattle.std.proofs.Common.{◌≡◌, ◌/◌, ◌%◌, ◌<◌, ◌==◌, ◌∙◌, ◌&&◌, ℕ, zero, suc, Bool, true, false, List, [], ◌∷◌, refl, ap, sym, arith, bit_and, cond, filter, map}
use Rattle.std.proofs.lemmas.Nat.{and_shr, and_mod}
use Rattle.typing_rules.specs.found.Bits.{put_if, chosen, marks}

-- ---- bits

both_one : (x y : ℕ) → x < 2 → y < 2 → (bit_and x y == 1) ≡ (x == 1) && (y == 1)
both_one zero y h k = refl
both_one (suc zero) zero h k = refl
both_one (suc zero) (suc zero) h k = refl
both_one (suc zero) (suc (suc y)) h k = absurd (omega (arith, k))
both_one (suc (suc x)) y h k = absurd (omega (arith, h))

low_of_both : (a b : ℕ) → (bit_and a b % 2 == 1) ≡ (a % 2 == 1) && (b % 2 == 1)
low_of_both a b = ap (λ (n : ℕ). n == 1) (and_mod a b 1) ∙ both_one (a % 2) (b % 2) (omega arith) (omega arith)

-- ---- members

put_both : {A : Type 0} (p : A → Bool) (b c : Bool) (x : A) (xs ys : List A) → p x ≡ c → ys ≡ filter p xs → put_if (b && c) x ys ≡ filter p (put_if b x xs)
put_both p true true x xs ys e h = ap (λ zs. x ∷ zs) h ∙ ap (λ d. cond d (x ∷ filter p xs) (filter p xs)) (sym e)
put_both p true false x xs ys e h = h ∙ ap (λ d. cond d (x ∷ filter p xs) (filter p xs)) (sym e)
put_both p false true x xs ys e h = h
put_both p false false x xs ys e h = h

pub chosen_by_both : {A : Type 0} (p : A → Bool) (a b : ℕ) (xs : List A) → marks b xs ≡ map p xs → chosen (bit_and a b) xs ≡ filter p (chosen a xs)
chosen_by_both p a b [] e = refl
chosen_by_both p a b (x ∷ xs) e =
    let head : p x ≡ (b % 2 == 1) = cc in
    let tail : marks (b / 2) xs ≡ map p xs = cc in
    let rest : chosen (bit_and a b / 2) xs ≡ filter p (chosen (a / 2) xs) = ap (λ n. chosen n xs) (and_shr a b 1) ∙ chosen_by_both p (a / 2) (b / 2) xs tail in
    ap (λ c. put_if c x (chosen (bit_and a b / 2) xs)) (low_of_both a b) ∙ put_both p (a % 2 == 1) (b % 2 == 1) x (chosen (a / 2) xs) (chosen (bit_and a b / 2) xs) head rest
