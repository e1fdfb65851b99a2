-- The items of an arena, with and without their handles.
use Rattle.std.proofs.Common.{◌≡◌, ℕ, ◌+◌, ◌≤◌, List, [], ◌∷◌, length, map, Option, None, option_map, slice_get, refl, ap, ◌∙◌}
use Rattle.std.proofs.lemmas.Option.{slice_get-map, slice_get_past}
use Rattle.std.specs.Option.{option_or}
use Rattle.ir_arena.specs.found.Arenas.{value_at}
use Rattle.ir_arena.specs.judged.Handles.{handles_from}
use Rattle.ir_arena.specs.declared.span.Span.{Span}
use Rattle.ir_items.specs.found.GlobalView.{values_of}
use Rattle.typing_references.specs.First.{first_of}

-- the first match with the handles is the first match without them
pub handles_first : {T A F : Type 0} (view : T → A) (look : A → Option F) (n : ℕ) (entries : List (T × Span)) → first_of (λ h. look (view h.1)) (handles_from n entries) ≡ first_of look (map view (values_of entries))
handles_first view look n [] = refl
handles_first view look n (e ∷ es) = ap (option_or (look (view e.0))) (handles_first view look (n + 1) es)

module _ {A B : Type 0} (view : A → B) where
  pub slice_get-entries : (entries : List (A × Span)) (h : ℕ) → slice_get (map view (values_of entries)) h ≡ option_map view (value_at entries h)
  slice_get-entries entries h =
      slice_get-map view (values_of entries) h ∙ ap (option_map view) (slice_get-map (λ e. e.0) entries h)

  pub none_past : (entries : List (A × Span)) (h : ℕ) → length entries ≤ h → slice_get (map view (values_of entries)) h ≡ None
  none_past entries h past = slice_get-entries entries h ∙ ap (λ o. option_map view (option_map (λ e. e.0) o)) (slice_get_past entries h past)

pub ruleset entries = (slice_get-entries, none_past)
