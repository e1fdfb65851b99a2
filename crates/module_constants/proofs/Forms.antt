-- The form at an index.
use Rattle.std.proofs.Common.{◌≡◌, ◌<◌, ℕ, zero, suc, List, [], ◌∷◌, Some, map, length, slice_get, get_or, refl, arith}

pub mapped_at : {A B : Type 0} (f : A → B) (xs : List A) (k : ℕ) (d : A) → k < length xs → Some (f (get_or xs k d)) ≡ slice_get (map f xs) k
mapped_at f [] k d lt = absurd (omega arith)
mapped_at f (x ∷ xs) zero d lt = refl
mapped_at f (x ∷ xs) (suc k) d lt = mapped_at f xs k d (omega arith)

pub many_mapped : {A B : Type 0} (f : A → B) (xs : List A) → length (map f xs) ≡ length xs
many_mapped f [] = refl
many_mapped f (x ∷ xs) = let h = many_mapped f xs in omega (arith, h)

pub below_mapped : {A B : Type 0} (f : A → B) (xs : List A) (k : ℕ) → k < length (map f xs) → k < length xs
below_mapped f xs k lt = let h = many_mapped f xs in omega (arith, h, lt)
