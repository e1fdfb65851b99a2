-- What stands at a handle of an arena, and at an index of a list; and how many values stand in an arena.
use Rattle.std.proofs.Common.{◌≡◌, ◌<◌, ℕ, List, length, map, get_or, option_map, Some, refl, sym, ap, ◌∙◌, slice_get, subst}
use Rattle.std.proofs.lemmas.List.{length-map}
use Rattle.std.proofs.lemmas.Option.{slice_get-map, slice_get_read}
use Rattle.ir_arena.specs.found.Arenas.{value_at, value_of_entry}
use Rattle.ir_arena.specs.declared.span.Span.{Span}
use Rattle.ir_items.specs.found.GlobalView.{values_of}

module _ {T : Type 0} (entries : List (T × Span)) (h : ℕ) (v : T) (at : Some v ≡ value_at entries h) where
  pub value_there : slice_get (values_of entries) h ≡ Some v
  value_there = slice_get-map value_of_entry entries h ∙ sym at

  pub view_there : {View : Type 0} (view : T → View) → slice_get (map view (values_of entries)) h ≡ Some (view v)
  view_there view = slice_get-map view (values_of entries) h ∙ ap (option_map view) value_there

module _ {T View : Type 0} (view : T → View) (items : List T) (i : ℕ) (within : i < length (map view items)) where
  pub item_within : i < length items
  item_within = subst (λ n. i < n) (length-map items view) within

  pub item_there : (x : T) → x ≡ get_or items i x → slice_get (map view items) i ≡ Some (view x)
  item_there x is = slice_get-map view items i ∙ ap (option_map view) (slice_get_read items (length items) i x refl item_within is)

-- how many values stand in an arena
pub many_values : {T View : Type 0} (view : T → View) (entries : List (T × Span)) → length (map view (values_of entries)) ≡ length entries
many_values view entries = length-map (values_of entries) view ∙ length-map entries value_of_entry
