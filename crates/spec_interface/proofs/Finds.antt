-- The result of a search, one element after another.
use Rattle.std.proofs.Common.{◌≡◌, ◌≤◌, ◌<◌, ℕ, ◌+◌, List, [], ◌∷◌, ◌++◌, length, map, take, get_or, Option, Some, None, refl, sym, ap, subst, ◌∙◌, arith}
use Rattle.std.specs.List.{filter_map, cons_option}
use Rattle.std.proofs.lemmas.List.{map_more}
use Rattle.std.proofs.lemmas.List.Elements.{filter_map-append}
use Rattle.spec_interface.specs.found.Found.{Stands, next}
use Rattle.spec_interface.specs.declared.found.Found.{Found}
use Rattle.spec_interface.specs.declared.found.Found.TheVariants.{Nothing, One, More}

module _ {T : Type 0} where
  longer : (xs : List T) (x : T) → 1 ≤ length xs → 2 ≤ length (xs ++ x ∷ [])
  longer [] x le = absurd (omega (arith, le))
  longer (y ∷ []) x le = omega arith
  longer (y ∷ z ∷ xs) x le = omega arith

  with_one : (found : Found T) (x : T) (xs : List T) → Stands found xs → Stands (next found (Some x)) (xs ++ x ∷ [])
  with_one Nothing x xs is = ap (λ ys. ys ++ x ∷ []) is
  with_one (One y) x xs is = longer xs x (subst (λ (ys : List T). 1 ≤ length ys) (sym is) (omega arith))
  with_one More x xs many = longer xs x (omega (arith, many))

  append_none : (xs : List T) → xs ++ [] ≡ xs
  append_none [] = refl
  append_none (x ∷ xs) = ap (λ ys. x ∷ ys) (append_none xs)

  with_next : (found : Found T) (o : Option T) (xs : List T) → Stands found xs → Stands (next found o) (xs ++ cons_option o [])
  with_next found (Some x) xs is = with_one found x xs is
  with_next found None xs is = subst (Stands found) (sym (append_none xs)) is

module _ {X V T : Type 0} (view : X → V) (h : V → Option T) (xs : List X) where
  one_more : (k : ℕ) (other : X) → k < length xs → filter_map h (map view (take (k + 1) xs)) ≡ filter_map h (map view (take k xs)) ++ cons_option (h (view (get_or xs k other))) []
  one_more k other lt = ap (filter_map h) (map_more view xs k other lt) ∙ filter_map-append h (map view (take k xs)) (view (get_or xs k other) ∷ [])

  -- the result for the first elements, and after one more
  pub found_more : (k : ℕ) (other : X) (o : Option T) (found : Found T) → k < length xs → o ≡ h (view (get_or xs k other))
      → Stands found (filter_map h (map view (take k xs))) → Stands (next found o) (filter_map h (map view (take (k + 1) xs)))
  found_more k other o found lt is stands =
      subst (Stands (next found o)) (sym (one_more k other lt))
      (subst (λ (p : Option T). Stands (next found o) (filter_map h (map view (take k xs)) ++ cons_option p [])) is (with_next found o (filter_map h (map view (take k xs))) stands))

module _ {T : Type 0} where
  -- exactly one, or none
  pub not_one_of_none : (xs : List T) → xs ≡ [] → (t : T) → xs ≡ t ∷ [] → ⊥
  not_one_of_none xs none t one = cc

  pub not_one_of_more : (xs : List T) → 2 ≤ length xs → (t : T) → xs ≡ t ∷ [] → ⊥
  not_one_of_more xs many t one = let few : length xs ≡ 1 = ap length one in omega (arith, many, few)
