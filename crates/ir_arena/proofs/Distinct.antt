-- Lists without equal elements.
use Rattle.std.proofs.Common.{◌≡◌, ℕ, zero, suc, Bool, true, false, ◌||◌, List, [], ◌∷◌, refl, ◌∙◌}
use Rattle.std.specs.Prelude.{slice_set}
use Rattle.std.specs.List.{list_any, AllByRecursion, IsDistinct}
use Rattle.std.specs.Cmp.{IsEquivalence}
use Rattle.std.proofs.lemmas.Map.Keys.{IsDistinct-cons, IsDistinct-head, IsDistinct-tail}

neither : (a b : Bool) → (a || b) ≡ false → (a ≡ false) × (b ≡ false)
neither true b e = absurd (cc)
neither false b e = (refl, e)

module _ {X : Type 0} where
  -- where none passes, each fails
  each_fails : (p : X → Bool) (xs : List X) → list_any p xs ≡ false → AllByRecursion (λ x. p x ≡ false) xs
  each_fails p [] none = tt
  each_fails p (x ∷ xs) none = let both = neither (p x) (list_any p xs) none in (both.0, each_fails p xs both.1)

  AllByRecursion-set : (P : X → Type 0) (xs : List X) (i : ℕ) (y : X) → AllByRecursion P xs → P y → AllByRecursion P (slice_set xs i y)
  AllByRecursion-set P [] i y all p = tt
  AllByRecursion-set P (x ∷ xs) zero y all p = (p, all.1)
  AllByRecursion-set P (x ∷ xs) (suc i) y all p = (all.0, AllByRecursion-set P xs i y all.1 p)

  -- an element is replaced by one that is equal to none
  pub IsDistinct-set : {e : X → X → Bool} → IsEquivalence e → (xs : List X) (i : ℕ) (y : X) → list_any (e y) xs ≡ false → IsDistinct e xs → IsDistinct e (slice_set xs i y)
  IsDistinct-set {e} laws [] i y none distinct = distinct
  IsDistinct-set {e} laws (x ∷ xs) zero y none distinct =
      IsDistinct-cons e y xs (each_fails (e y) (x ∷ xs) none).1 (IsDistinct-tail e x xs distinct)
  IsDistinct-set {e} laws (x ∷ xs) (suc i) y none distinct =
      let both = neither (e y x) (list_any (e y) xs) none in
      IsDistinct-cons e x (slice_set xs i y)
      (AllByRecursion-set (λ z. e x z ≡ false) xs i y (IsDistinct-head e x xs distinct) (laws.symm x y ∙ both.0))
      (IsDistinct-set laws xs i y both.1 (IsDistinct-tail e x xs distinct))
