-- The bit of a set's member is set, and an element whose bit is set is a member.
use Rattle.std.proofs.Common.{◌≡◌, ◌<◌, ◌+◌, ◌*◌, ◌/◌, ◌%◌, ◌^◌, ◌==◌, ◌∙◌, ◌⊎◌, inl, inr, ℕ, zero, suc, Bool, true, false, List, [], ◌∷◌, Some, refl, ap, sym, subst, arith, rules, Contains, slice_get}
use Rattle.std.specs.Int.{bit_at}
use Rattle.std.specs.Int.RustNames.{bit_and}
use Rattle.std.specs.List.{position_or_len}
use Rattle.std.proofs.lemmas.Nat.{pow_pos}
use Rattle.std.proofs.lemmas.Nat.Bits.{and_pow, bit_at-suc, bit_at_lowest, bit_at-lt}
use Rattle.ir_flags.specs.Sets.{Has}
use Rattle.ir_kinds.specs.judged.Scalars.{same_scalar}
use Rattle.ir_kinds.specs.declared.scalars.Scalar.{Scalar}
use Rattle.typing_rules.specs.judged.Types.{constructor_place}
use Rattle.typing_rules.specs.found.Bits.{put_if, chosen, MembersByBits}
use Rattle.typing_rules.specs.found.Members.{scalars, sizes}

-- ---- one bit

has_from_bit : (set k : ℕ) → bit_at set k ≡ 1 → Has set (2 ^ k)
has_from_bit set k e = and_pow set k ∙ (ap (λ b. b * 2 ^ k) e ∙ omega arith)

not_zero : (set k b : ℕ) → b ≡ bit_at set k → b < 2 → Has set (2 ^ k) → b ≡ 1
not_zero set k zero e lt h =
    let none : bit_and set (2 ^ k) ≡ 0 = and_pow set k ∙ (ap (λ b. b * 2 ^ k) (sym e) ∙ omega arith) in
    let some : 0 < 2 ^ k = pow_pos k in
    absurd (let same = h in omega (arith, none, some, same))
not_zero set k (suc zero) e lt h = refl
not_zero set k (suc (suc b)) e lt h = absurd (omega (arith, lt))

bit_from_has : (set k : ℕ) → Has set (2 ^ k) → bit_at set k ≡ 1
bit_from_has set k h = not_zero set k (bit_at set k) refl (bit_at-lt set k) h

-- ---- members

from_cons : {A : Type 0} (x y : A) (ys : List A) → Contains (y ∷ ys) x → (y ≡ x) ⊎ Contains ys x
from_cons x y ys (zero, lt, e) = inl e
from_cons x y ys (suc k, lt, e) = inr (k, omega (arith, lt), e)

at_first : {A : Type 0} (x y : A) (ys : List A) → y ≡ x → Contains (y ∷ ys) x
at_first x y ys e = (zero, omega arith, e)

behind : {A : Type 0} (x y : A) (ys : List A) → Contains ys x → Contains (y ∷ ys) x
behind x y ys (k, lt, e) = (suc k, omega (arith, lt), e)

-- each item has its index, counted from a number on
abbrev Placed : {A : Type 0} → (A → ℕ) → ℕ → List A → Type 0
Placed place n [] = Unit {0}
Placed place n (x ∷ xs) = (place x ≡ n) × Placed place (suc n) xs

placed_at : {A : Type 0} (place : A → ℕ) (n : ℕ) (xs : List A) (k : ℕ) (x : A) → Placed place n xs → slice_get xs k ≡ Some x → place x ≡ n + k
placed_at place n [] k x p e = absurd (cc)
placed_at place n (y ∷ ys) zero x p e = let same : x ≡ y = cc in (ap place same ∙ p.0) ∙ omega arith
placed_at place n (y ∷ ys) (suc k) x p e = placed_at place (suc n) ys k x p.1 e ∙ omega arith

-- an index whose bit is set, counted from a number on
abbrev BitFrom : ℕ → ℕ → ℕ → Type 0
BitFrom bits n place = (k : ℕ) × (place ≡ n + k) × (bit_at bits k ≡ 1)

later : (bits n place : ℕ) → BitFrom (bits / 2) (suc n) place → BitFrom bits n place
later bits n place (k, p, e) = (suc k, omega (arith, p), bit_at-suc bits k ∙ e)

low_bit : (bits : ℕ) → (bits % 2 == 1) ≡ true → bit_at bits 0 ≡ 1
low_bit bits e = bit_at_lowest bits ∙ search (rules, e)

bit_put : {A : Type 0} (place : A → ℕ) (n bits : ℕ) (x y : A) (ys : List A) (b : Bool) → (bits % 2 == 1) ≡ b → place y ≡ n
    → (Contains ys x → BitFrom (bits / 2) (suc n) (place x)) → Contains (put_if b y ys) x → BitFrom bits n (place x)
bit_put place n bits x y ys true e p again h =
    elim (from_cons x y ys h) [ inl same ↦ (0, (ap place (sym same) ∙ p) ∙ omega arith, low_bit bits e) | inr more ↦ later bits n (place x) (again more) ]
bit_put place n bits x y ys false e p again h = later bits n (place x) (again h)

bit_of : {A : Type 0} (place : A → ℕ) (n bits : ℕ) (xs : List A) (x : A) → Placed place n xs → Contains (chosen bits xs) x → BitFrom bits n (place x)
bit_of place n bits [] x p (k, lt, e) = absurd (omega (arith, lt))
bit_of place n bits (y ∷ ys) x p h =
    bit_put place n bits x y (chosen (bits / 2) ys) (bits % 2 == 1) refl p.0 (bit_of place (suc n) (bits / 2) ys x p.1) h

put_first : {A : Type 0} (b : Bool) (x y : A) (ys : List A) → b ≡ true → y ≡ x → Contains (put_if b y ys) x
put_first true x y ys e same = at_first x y ys same
put_first false x y ys e same = absurd (cc)

put_behind : {A : Type 0} (b : Bool) (x y : A) (ys : List A) → Contains ys x → Contains (put_if b y ys) x
put_behind true x y ys h = behind x y ys h
put_behind false x y ys h = h

member_of : {A : Type 0} (bits : ℕ) (xs : List A) (k : ℕ) (x : A) → slice_get xs k ≡ Some x → bit_at bits k ≡ 1 → Contains (chosen bits xs) x
member_of bits [] k x e h = absurd (cc)
member_of bits (y ∷ ys) zero x e h =
    let same : y ≡ x = cc in
    let low : bits % 2 ≡ 1 = sym (bit_at_lowest bits) ∙ h in
    put_first (bits % 2 == 1) x y (chosen (bits / 2) ys) (ap (λ n. n == 1) low) same
member_of bits (y ∷ ys) (suc k) x e h = put_behind (bits % 2 == 1) x y (chosen (bits / 2) ys) (member_of (bits / 2) ys k x e (sym (bit_at-suc bits k) ∙ h))

by_bits : {A : Type 0} (place : A → ℕ) (xs : List A) → Placed place 0 xs → MembersByBits xs
by_bits place xs p set k x e = ((λ h. one_way (bit_of place 0 set xs x p h)), (λ h. member_of set xs k x e (bit_from_has set k h)))
  where
    one_way : BitFrom set 0 (place x) → Has set (2 ^ k)
    one_way (j, is, bit) =
        let there : place x ≡ 0 + k = placed_at place 0 xs k x p e in
        let same : j ≡ k = omega (arith, is, there) in
        has_from_bit set k (subst (λ i. bit_at set i ≡ 1) same bit)

-- ---- scalars and constructors

scalar_place : Scalar → ℕ
scalar_place s = position_or_len (same_scalar s) scalars

scalars_placed : Placed scalar_place 0 scalars
unfolding scalar_place
scalars_placed = (refl, (refl, (refl, (refl, (refl, (refl, (refl, (refl, (refl, (refl, (refl, (refl, tt))))))))))))

sizes_placed : Placed constructor_place 0 sizes
sizes_placed = (refl, (refl, (refl, (refl, (refl, (refl, (refl, (refl, (refl, (refl, (refl, (refl, (refl, tt)))))))))))))

pub scalars_by_bits : MembersByBits scalars
scalars_by_bits = by_bits scalar_place scalars scalars_placed

pub sizes_by_bits : MembersByBits sizes
sizes_by_bits = by_bits constructor_place sizes sizes_placed
