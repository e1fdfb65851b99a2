-- What a module with layouts provides to the traversal of its types.
use Rattle.std.proofs.Common.{◌≡◌, ◌<◌, ◌≤◌, ℕ, zero, suc, List, [], ◌∷◌, Some, map, length, slice_get, option_map, sym, ap, subst, ◌∙◌, arith}
use Rattle.std.proofs.lemmas.Option.{slice_get-map}
use Rattle.ir_arena.specs.found.Arenas.{value_at, value_of_entry}
use Rattle.ir_arena.specs.declared.span.Span.{Span}
use Rattle.ir_items.specs.found.GlobalView.{values_of}
use Rattle.ir_items.specs.judged.Plain.{PlainModule}
use Rattle.ir_types.specs.judged.Plain.{PlainInner, PlainType}
use Rattle.judgement_report.specs.Rows.{AreInRange, AreLaid}
use Rattle.typing_forms.specs.judged.Resolutions.{inner_at}
use Rattle.typing_forms.specs.judged.Sizes.{type_size}
use Rattle.typing_forms.specs.declared.sizes.TheConstants.{MAX_TYPE_SIZE}
use Rattle.typing_layout.proofs.Sizes.{size_of_tree}
use Rattle.typing_layout.specs.judged.Layout.{size}
use Rattle.typing_layout.specs.judged.View.{tree_found, tree_along, type_tree}

size_found : (types : List PlainType) (handle : ℕ) (i : PlainInner) → inner_at types handle ≡ Some i → size (type_tree types handle) ≡ type_size i
unfolding tree_along type_tree
size_found types handle i at = ap (λ found. size (tree_found (tree_along types handle) found)) at ∙ size_of_tree (tree_along types handle) i

within : (types : List PlainType) (handle : ℕ) (i : PlainInner) → inner_at types handle ≡ Some i → handle < length types
within [] handle i at = absurd (let e = at in cc)
within (t ∷ ts) zero i at = omega arith
within (t ∷ ts) (suc k) i at = let lt = within ts k i at in omega (arith, lt)

pub laid_in_range : (m : PlainModule) → AreLaid m → AreInRange m.types
laid_in_range m laid handle i at = subst (λ n. n ≤ MAX_TYPE_SIZE) (size_found m.types handle i at) (laid handle (within m.types handle i at)).in_range

pub global_found : {T View : Type 0} (view : T → View) (entries : List (T × Span)) (h : ℕ) (v : T) → Some v ≡ value_at entries h → slice_get (map view (values_of entries)) h ≡ Some (view v)
global_found view entries h v at = slice_get-map view (values_of entries) h ∙ ap (option_map view) (slice_get-map value_of_entry entries h ∙ sym at)
