-- Rounding up with the remainder of a division.
use Rattle.std.proofs.Common.{◌≡◌, ◌≢◌, ◌<◌, ◌≤◌, ◌+◌, ◌-◌, ◌*◌, ◌/◌, ◌%◌, ◌^◌, ℕ, subst, arith, rules, Fits, w32, IsTrue, ◌==◌}
use Rattle.std.specs.Int.{◌∣◌}
use Rattle.std.proofs.Math.Nat.{dvd-mul_right}
use Rattle.typing_forms.specs.judged.Sizes.{rounded_up}
use Rattle.typing_layout.specs.judged.Layout.{IsLeastMultiple}
use Rattle.typing_layout.proofs.Sizes.{least_near, rounded_is_least}

pub rest_is_none : (rest : ℕ) → IsTrue (rest == 0) → rest ≡ 0
rest_is_none rest e = search rules

next_is_multiple : (step n : ℕ) → 0 < step → step ∣ (n + (step - n % step))
next_is_multiple step n pos =
    let rest : n % step < step = omega arith in
    let e : step * (n / step + 1) ≡ n + (step - n % step) = omega (arith, rest) in
    subst (λ m. step ∣ m) e (dvd-mul_right step (n / step + 1))

pub next_is_least : (a step n : ℕ) → step ≡ a → 0 < step → (n % step ≢ 0) → IsLeastMultiple a n (n + (step - n % step))
next_is_least a step n same pos some =
    let rest : n % step < step = omega arith in
    subst (λ s. IsLeastMultiple s n (n + (step - n % step))) same (least_near step n (n + (step - n % step)) pos (next_is_multiple step n pos) (omega arith) (omega (arith, some)))

pub next_fits : (a step n : ℕ) → step ≡ a → 0 < step → (n % step ≢ 0) → rounded_up a n < 2 ^ 32 → Fits w32 (n + (step - n % step))
next_fits a step n same pos some room =
    let rounded : IsLeastMultiple a n (rounded_up a n) = rounded_is_least a n (omega (arith, same, pos)) in
    let near : IsLeastMultiple a n (n + (step - n % step)) = next_is_least a step n same pos some in
    let le : n + (step - n % step) ≤ rounded_up a n = near.least (rounded_up a n) rounded.is_multiple rounded.not_below in
    omega (arith, le, room)
