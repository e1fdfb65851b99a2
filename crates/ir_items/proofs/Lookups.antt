-- The view of an arena at a handle, from the value read there.
use Rattle.std.proofs.Common.{◌≡◌, ℕ, zero, suc, ◌≤◌, ◌∙◌, List, [], ◌∷◌, map, length, slice_get, Some, None, option_map, refl, sym, ap, arith}
use Rattle.ir_blocks.specs.IrArena.{Span, value_at}
use Rattle.ir_items.specs.found.GlobalView.{values_of}

viewed : {T View : Type 0} (view : T → View) (entries : List (T × Span)) (h : ℕ) → slice_get (map view (values_of entries)) h ≡ option_map view (value_at entries h)
viewed view [] h = refl
viewed view (e ∷ es) zero = refl
viewed view (e ∷ es) (suc h) = viewed view es h

pub found : {T View : Type 0} (view : T → View) (entries : List (T × Span)) (h : ℕ) (v : T) → Some v ≡ value_at entries h → slice_get (map view (values_of entries)) h ≡ Some (view v)
found view entries h v e = viewed view entries h ∙ sym (ap (option_map view) e)

pub missing : {T View : Type 0} (view : T → View) (entries : List (T × Span)) (h : ℕ) → length entries ≤ h → slice_get (map view (values_of entries)) h ≡ None
missing view [] h le = refl
missing view (e ∷ es) zero le = absurd (omega (arith, le))
missing view (e ∷ es) (suc h) le = missing view es h (omega (arith, le))

pub many_viewed : {T View : Type 0} (view : T → View) (entries : List (T × Span)) → length (map view (values_of entries)) ≡ length entries
many_viewed view [] = refl
many_viewed view (e ∷ es) = let rest = many_viewed view es in omega (arith, rest)
