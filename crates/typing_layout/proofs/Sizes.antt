-- Rounding up, and the size of a tree.
use Rattle.std.proofs.Common.{◌≡◌, ◌<◌, ◌≤◌, ◌+◌, ◌-◌, ◌*◌, ◌/◌, ◌%◌, inl, inr, ℕ, refl, arith}
use Rattle.std.specs.Int.{◌∣◌}
use Rattle.std.proofs.lemmas.Bool.{cases_lt}
use Rattle.std.proofs.lemmas.Nat.Gcd.{mod-eq-zero_of_dvd}
use Rattle.std.proofs.Math.Nat.{dvd-mul_left, mul-le-mul_left}
use Rattle.typing_forms.specs.IrTypes.{struct, plain}
use Rattle.typing_forms.specs.IrTypes.inner as inner
use Rattle.typing_forms.specs.judged.Sizes.{rounded_up}
use Rattle.typing_layout.specs.judged.Layout.{IsLeastMultiple, RoundedIsLeast, SizeOfTree}

-- ---- rounding up

-- a multiple is the step times the quotient
whole : (step m : ℕ) → 0 < step → step ∣ m → step * (m / step) ≡ m
whole step m pos d = let r : m % step ≡ 0 = mod-eq-zero_of_dvd step d in omega arith

-- a multiple above another is at least a step above it
apart : (step a b : ℕ) → step * a < step * b → step * a + step ≤ step * b
apart step a b lt = elim (cases_lt a b) [
  | inl less ↦ let next : step * (a + 1) ≤ step * b = mul-le-mul_left step (let h : a < b = less in omega arith) in omega (arith, next)
  | inr le ↦ let back : step * b ≤ step * a = mul-le-mul_left step le in absurd (omega (arith, back, lt))
]

multiples_apart : (step m n : ℕ) → 0 < step → step ∣ m → step ∣ n → m < n → m + step ≤ n
multiples_apart step m n pos dm dn lt =
    let em : step * (m / step) ≡ m = whole step m pos dm in
    let en : step * (n / step) ≡ n = whole step n pos dn in
    let h : step * (m / step) + step ≤ step * (n / step) = apart step (m / step) (n / step) (omega (arith, em, en, lt)) in
    omega (arith, h, em, en)

-- a multiple less than a step above a number is the least that is at least the number
pub least_near : (step n multiple : ℕ) → 0 < step → step ∣ multiple → n ≤ multiple → multiple < n + step → IsLeastMultiple step n multiple
least_near step n multiple pos d le near = record {
  is_multiple = d;
  not_below = le;
  least = λ m dm lem. elim (cases_lt m multiple) [
    | inl lt ↦ absurd (let h : m + step ≤ multiple = multiples_apart step m multiple pos dm d lt in omega (arith, h, lem, near))
    | inr ge ↦ ge
  ];
}

pub rounded_is_least : RoundedIsLeast
rounded_is_least step n pos =
    let below : step * ((n + (step - 1)) / step) + (n + (step - 1)) % step ≡ n + (step - 1) = omega arith in
    let rest : (n + (step - 1)) % step < step = omega arith in
    least_near step n (rounded_up step n) pos (dvd-mul_left step ((n + (step - 1)) / step)) (omega (arith, below, rest)) (omega (arith, below, rest))

-- ---- sizes

pub size_of_tree : SizeOfTree
size_of_tree tree (struct members span) = refl
size_of_tree tree (plain (inner.Scalar s)) = refl
size_of_tree tree (plain (inner.Vector n s)) = refl
size_of_tree tree (plain (inner.Matrix columns rows s)) = refl
size_of_tree tree (plain (inner.CooperativeMatrix columns rows s role)) = refl
size_of_tree tree (plain (inner.Atomic s)) = refl
size_of_tree tree (plain (inner.Pointer base space)) = refl
size_of_tree tree (plain (inner.ValuePointer n s space)) = refl
size_of_tree tree (plain (inner.Array base n stride)) = refl
size_of_tree tree (plain (inner.Struct members span)) = refl
size_of_tree tree (plain (inner.Image dim arrayed class)) = refl
size_of_tree tree (plain (inner.Sampler comparison)) = refl
size_of_tree tree (plain (inner.AccelerationStructure vertex_return)) = refl
size_of_tree tree (plain (inner.RayQuery vertex_return)) = refl
size_of_tree tree (plain (inner.BindingArray base n)) = refl
