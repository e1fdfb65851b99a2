-- The element of a view at a handle.
use Rattle.std.proofs.Common.{◌≡◌, ℕ, zero, suc, ◌≤◌, ◌∙◌, List, [], ◌∷◌, map, length, slice_get, Some, None, option_map, refl, sym, ap, arith}
use Rattle.ir_arena.specs.found.Arenas.{value_at}
use Rattle.ir_arena.specs.declared.span.Span.{Span}
use Rattle.ir_items.specs.found.GlobalView.{values_of}
use Rattle.ir_items.specs.found.View.{argument_view}
use Rattle.ir_items.specs.declared.functions.FunctionArgument.{FunctionArgument}

viewed : {T View : Type 0} (view : T → View) (entries : List (T × Span)) (h : ℕ) → slice_get (map view (values_of entries)) h ≡ option_map view (value_at entries h)
viewed view [] h = refl
viewed view (e ∷ es) zero = refl
viewed view (e ∷ es) (suc h) = viewed view es h

pub found : {T View : Type 0} (view : T → View) (entries : List (T × Span)) (h : ℕ) (v : T) → Some v ≡ value_at entries h → slice_get (map view (values_of entries)) h ≡ Some (view v)
found view entries h v e = viewed view entries h ∙ sym (ap (option_map view) e)

pub missing : {T View : Type 0} (view : T → View) (entries : List (T × Span)) (h : ℕ) → length entries ≤ h → slice_get (map view (values_of entries)) h ≡ None
missing view [] h le = refl
missing view (e ∷ es) zero le = absurd (omega (arith, le))
missing view (e ∷ es) (suc h) le = missing view es h (omega (arith, le))

-- an argument of a function
pub argument_found : (arguments : List FunctionArgument) (n : ℕ) → slice_get (map argument_view arguments) n ≡ option_map argument_view (slice_get arguments n)
argument_found [] n = refl
argument_found (a ∷ rest) zero = refl
argument_found (a ∷ rest) (suc n) = argument_found rest n
