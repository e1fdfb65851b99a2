-- Membership in lists.
use Rattle.std.proofs.Common.{◌≡◌, ◌⊎◌, ℕ, suc, zero, ◌<◌, Some, None, Bool, true, false, List, [], ◌∷◌, ◌++◌, length, refl, ap, sym, subst, inl, inr, ⊎_elim, arith, map, slice_get}
use Rattle.std.proofs.lemmas.Option.{same_Some}
use Rattle.typing_rules.specs.judged.Laws.{IsAmong}

pub among-left : {X : Type 0} (xs ys : List X) (x : X) → IsAmong x xs → IsAmong x (xs ++ ys)
among-left [] ys x h = elim h [ ]
among-left (y ∷ xs) ys x (inl e) = inl e
among-left (y ∷ xs) ys x (inr h) = inr (among-left xs ys x h)

pub among-right : {X : Type 0} (xs ys : List X) (x : X) → IsAmong x ys → IsAmong x (xs ++ ys)
among-right [] ys x h = h
among-right (y ∷ xs) ys x h = inr (among-right xs ys x h)

pub among-cases : {X : Type 0} (xs ys : List X) (x : X) → IsAmong x (xs ++ ys) → IsAmong x xs ⊎ IsAmong x ys
among-cases [] ys x h = inr h
among-cases (y ∷ xs) ys x (inl e) = inl (inl e)
among-cases (y ∷ xs) ys x (inr h) = elim (among-cases xs ys x h) [ inl a ↦ inl (inr a) | inr b ↦ inr b ]

pub among-get : {X : Type 0} (xs : List X) (k : ℕ) (x : X) → slice_get xs k ≡ Some x → IsAmong x xs
among-get [] k x e = cc (e)
among-get (y ∷ xs) zero x e = inl (same_Some _ _ e)
among-get (y ∷ xs) (suc k) x e = inr (among-get xs k x e)

pub get-among : {X : Type 0} (xs : List X) (x : X) → IsAmong x xs → (k : ℕ) × (slice_get xs k ≡ Some x)
get-among [] x h = elim h [ ]
get-among (y ∷ xs) x (inl e) = (zero, ap Some e)
get-among (y ∷ xs) x (inr h) = let r = get-among xs x h in (suc r.0, r.1)

pub get-within : {X : Type 0} (xs : List X) (k : ℕ) → k < length xs → (x : X) × (slice_get xs k ≡ Some x)
get-within [] k h = absurd (omega (arith, h))
get-within (x ∷ xs) zero h = (x, refl)
get-within (x ∷ xs) (suc k) h = get-within xs k (omega (arith, h))
