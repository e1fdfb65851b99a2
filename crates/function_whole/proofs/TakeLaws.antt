-- One more of the first of a list, seen through a function.
use Rattle.std.proofs.Common.{◌≡◌, ◌+◌, zero, suc, ℕ, List, [], ◌∷◌, ◌++◌, Some, map, take, slice_get, ap, subst, arith}

taken_next : {A B : Type 0} (f : A → B) (xs : List A) (i : ℕ) (x : A) → slice_get xs i ≡ Some x → map f (take (suc i) xs) ≡ map f (take i xs) ++ f x ∷ []
taken_next f [] i x at = absurd (let h = at in cc)
taken_next f (y ∷ ys) zero x at = ap (λ z. f z ∷ []) (let h = at in cc)
taken_next f (y ∷ ys) (suc i) x at = ap (λ zs. f y ∷ zs) (taken_next f ys i x at)

pub one_more_taken : {A B : Type 0} (f : A → B) (xs : List A) (i : ℕ) (x : A) → slice_get xs i ≡ Some x → map f (take (i + 1) xs) ≡ map f (take i xs) ++ f x ∷ []
one_more_taken f xs i x at = subst (λ n. map f (take n xs) ≡ map f (take i xs) ++ f x ∷ []) (let e : suc i ≡ i + 1 = omega arith in e) (taken_next f xs i x at)
