-- Items at a place of an arena.
use Rattle.std.proofs.Common.{◌≡◌, ℕ, zero, suc, ◌<◌, List, [], ◌∷◌, Some, length, slice_get, map, option_map, refl, sym, ap, ◌∙◌, arith}
use Rattle.std.proofs.lemmas.Option.{slice_get-map}
use Rattle.ir_blocks.specs.IrArena.{Span, value_at}
use Rattle.ir_items.specs.found.GlobalView.{values_of}

-- there is an item at each place within a list
pub item_at : {T : Type 0} → (xs : List T) (k : ℕ) → k < length xs → (x : T) × (slice_get xs k ≡ Some x)
item_at [] k h = absurd (omega arith)
item_at (x ∷ xs) zero h = (x, refl)
item_at (x ∷ xs) (suc k) h = item_at xs k (omega arith)

-- the plain item at a handle
pub plain_at : {T P : Type 0} → (view : T → P) (entries : List (T × Span)) (handle : ℕ) (item : T)
    → Some item ≡ value_at entries handle → slice_get (map view (values_of entries)) handle ≡ Some (view item)
plain_at {T} {P} view entries handle item e =
    slice_get-map view (values_of entries) handle
    ∙ ap (option_map view) (slice_get-map (λ (x : T × Span). x.0) entries handle ∙ sym e)
