-- Lists without equal entries, and one entry more.
use Rattle.std.proofs.Common.{◌≡◌, ◌≢◌, ◌⊎◌, inl, inr, ℕ, zero, suc, ◌<◌, ◌≤◌, List, [], ◌∷◌, ◌++◌, length, get_or, map, ◌+◌, Contains, Some, slice_get, refl, sym, ap, subst, ◌∙◌, arith}
use Rattle.std.specs.Prelude.{take, slice_index_or}
use Rattle.std.specs.List.{AllPairs}
use Rattle.std.proofs.lemmas.List.{get_or-take, length-take, take-map, take_more, length-map, map-append, get_or-map}
use Rattle.std.proofs.lemmas.List.Elements.{Contains-push_cases}
use Rattle.std.proofs.lemmas.List.Quantifiers.{all_pairs_push}
use Rattle.std.proofs.lemmas.Option.{slice_get-get_or}

-- ---- one of a list

pub contains_cons : {X : Type 0} (x : X) (xs : List X) (y : X) → Contains (x ∷ xs) y → (x ≡ y) ⊎ Contains xs y
contains_cons x xs y c = by_place x xs y c.0 c.1 c.2
  where
    by_place : {X : Type 0} (x : X) (xs : List X) (y : X) (k : ℕ) → k < length (x ∷ xs) → slice_index_or (x ∷ xs) k y ≡ y → (x ≡ y) ⊎ Contains xs y
    by_place x xs y zero lt e = inl e
    by_place x xs y (suc k) lt e = inr (k, omega arith, e)

pub contains_first : {X : Type 0} (x : X) (xs : List X) → Contains (x ∷ xs) x
contains_first x xs = (0, omega arith, refl)

pub contains_later : {X : Type 0} (x : X) (xs : List X) (y : X) → Contains xs y → Contains (x ∷ xs) y
contains_later x xs y c = (suc c.0, (let lt = c.1 in omega arith), c.2)

-- ---- one entry more

module _ {X : Type 0} where
  -- what stands at a place does not depend on the default
  same_place : (xs : List X) (k : ℕ) (d x : X) → k < length xs → get_or xs k d ≡ x → get_or xs k x ≡ x
  same_place [] k d x lt e = absurd (omega arith)
  same_place (y ∷ ys) zero d x lt e = e
  same_place (y ∷ ys) (suc k) d x lt e = same_place ys k d x (omega arith) e

  pub distinct_push : (xs : List X) (x : X) → AllPairs (λ s t. s ≢ t) xs → ¬ Contains xs x → AllPairs (λ s t. s ≢ t) (xs ++ x ∷ [])
  distinct_push xs x apart absent =
      all_pairs_push (λ s t. s ≢ t) xs x apart (λ k d lt e. absent (k, lt, same_place xs k d x lt e))

  -- all of a list are so, and one more is
  pub each_push : (P : X → Type 0) (xs : List X) (x : X) → ((y : X) → Contains xs y → P y) → P x → (y : X) → Contains (xs ++ x ∷ []) y → P y
  each_push P xs x all holds y held =
      elim (Contains-push_cases xs x y held) [
        | inl before ↦ all y before
        | inr same ↦ subst P same holds
      ]

  -- what stands at a place stands there
  occurs_at : (xs : List X) (i : ℕ) (x : X) → i < length xs → get_or xs i x ≡ x → slice_get xs i ≡ Some x
  occurs_at xs i x lt e = slice_get-get_or xs i x lt ∙ ap Some e

  -- what is among the first stands before
  pub stands_before : (xs : List X) (i : ℕ) (x : X) → Contains (take i xs) x → i ≤ length xs → (k : ℕ) × (k < i) × (slice_get xs k ≡ Some x)
  stands_before xs i x c len =
      let size : length (take i xs) ≤ i = omega (arith, length-take i xs) in
      let lt = c.1 in
      let before : c.0 < i = omega arith in
      (c.0, before, occurs_at xs c.0 x (omega arith) (sym (get_or-take i xs c.0 x before) ∙ c.2))

-- the same of the images of a list, at its place i
module _ {X Y : Type 0} (f : X → Y) where
  pub image_more : (xs : List X) (i : ℕ) (x : X) → i < length xs → x ≡ get_or xs i x → map f (take (i + 1) xs) ≡ map f (take i xs) ++ f x ∷ []
  image_more xs i x lt here =
      let more : take (i + 1) xs ≡ take i xs ++ x ∷ [] = take_more xs i x lt ∙ ap (λ z. take i xs ++ z ∷ []) (sym here) in
      ap (map f) more ∙ map-append f (take i xs) (x ∷ [])

  pub distinct_more : (xs : List X) (i : ℕ) (x : X) → i < length xs → x ≡ get_or xs i x → AllPairs (λ s t. s ≢ t) (map f (take i xs)) → ¬ Contains (map f (take i xs)) (f x)
      → AllPairs (λ s t. s ≢ t) (map f (take (i + 1) xs))
  distinct_more xs i x lt here apart absent =
      subst (λ z. AllPairs (λ s t. s ≢ t) z) (sym (image_more xs i x lt here)) (distinct_push (map f (take i xs)) (f x) apart absent)

  pub each_more : (P : Y → Type 0) (xs : List X) (i : ℕ) (x : X) → i < length xs → x ≡ get_or xs i x → ((y : Y) → Contains (map f (take i xs)) y → P y) → P (f x)
      → (y : Y) → Contains (map f (take (i + 1) xs)) y → P y
  each_more P xs i x lt here all holds y held =
      each_push P (map f (take i xs)) (f x) all holds y (subst (λ z. Contains z y) (image_more xs i x lt here) held)

  -- one of all, at its place
  pub image_at : (xs : List X) (i : ℕ) (x : X) → i < length xs → x ≡ get_or xs i x → slice_get (map f xs) i ≡ Some (f x)
  image_at xs i x lt here = occurs_at (map f xs) i (f x) (omega (arith, length-map xs f)) (get_or-map f xs i x (f x) lt ∙ ap f (sym here))

  -- it stood before
  pub image_before : (xs : List X) (i : ℕ) (x : X) → i < length xs → Contains (map f (take i xs)) (f x) → (k : ℕ) × (k < i) × (slice_get (map f xs) k ≡ Some (f x))
  image_before xs i x lt there =
      stands_before (map f xs) i (f x) (subst (λ z. Contains z (f x)) (sym (take-map f i xs)) there) (omega (arith, length-map xs f))
