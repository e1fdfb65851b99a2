-- Views of an arena's entries, without their spans.
use Rattle.std.proofs.Common.{◌≡◌, ℕ, ◌+◌, ◌-◌, ◌<◌, List, [], ◌∷◌, ◌++◌, length, map, take, get_or, Some, option_map, slice_get, refl, sym, ap, ◌∙◌, zero, suc, arith}
use Rattle.std.specs.Prelude.{unwrap_or, slice_range}
use Rattle.std.proofs.lemmas.List.{take_all, take_more, map-append}
use Rattle.std.proofs.lemmas.Option.{slice_get-get_or, same_Some}
use Rattle.ir_arena.specs.found.Spans.{undefined_span}
use Rattle.ir_arena.specs.found.Arenas.{value_of_entry, span_of_entry, value_at, span_at}
use Rattle.ir_arena.specs.declared.span.Span.{Span}
use Rattle.ir_arena.specs.found.Copies.{entry_of}

module _ {A B : Type 0} (view : A → B) where
  values_of_entries : (entries : List (A × Span)) → map view (map value_of_entry entries) ≡ map (λ e. e.0) (map (entry_of view) entries)
  values_of_entries [] = refl
  values_of_entries (e ∷ es) = ap (λ rest. view e.0 ∷ rest) (values_of_entries es)

  -- entries with equal views have values with equal views
  pub same_values : (xs ys : List (A × Span)) → map (entry_of view) xs ≡ map (entry_of view) ys → map view (map value_of_entry xs) ≡ map view (map value_of_entry ys)
  same_values xs ys e = values_of_entries xs ∙ (ap (map (λ x. x.0)) e ∙ sym (values_of_entries ys))

  -- the next entry is appended to the copies
  pub entries_more : (entries copied after : List (A × Span)) (k : ℕ) (x clone : A) (span : Span) → k < length entries → Some x ≡ value_at entries k → view clone ≡ view x → span ≡ span_at entries k
      → map (entry_of view) copied ≡ map (entry_of view) (take k entries) → after ≡ copied ++ (clone, span) ∷ [] → map (entry_of view) after ≡ map (entry_of view) (take (k + 1) entries)
  entries_more entries copied after k x clone span lt at same spanned held added =
      let d : A × Span = (x, span) in
      let entry : A × Span = get_or entries k d in
      let found : slice_get entries k ≡ Some entry = slice_get-get_or entries k d lt in
      let x_is : x ≡ entry.0 = same_Some x entry.0 (at ∙ ap (option_map value_of_entry) found) in
      let span_is : span ≡ entry.1 = spanned ∙ ap (λ o. unwrap_or (option_map span_of_entry o) undefined_span) found in
      let left : map (entry_of view) after ≡ map (entry_of view) copied ++ (view clone, span) ∷ [] =
      ap (map (entry_of view)) added ∙ map-append (entry_of view) copied ((clone, span) ∷ []) in
      let more : map (entry_of view) (take (k + 1) entries) ≡ map (entry_of view) (take k entries) ++ (view entry.0, entry.1) ∷ [] =
      ap (map (entry_of view)) (take_more entries k d lt) ∙ map-append (entry_of view) (take k entries) (entry ∷ []) in
      let last : (view clone, span) ≡ (view entry.0, entry.1) = λ i. ((same ∙ ap view x_is) i, span_is i) in
      left ∙ (ap (λ z. z ++ (view clone, span) ∷ []) held ∙ (ap (λ z. map (entry_of view) (take k entries) ++ z ∷ []) last ∙ sym more))

-- all values, or all spans
pub all_of : {A B : Type 0} (f : A × Span → B) (entries : List (A × Span)) (parts : List B) (range : ℕ × ℕ) (n : ℕ) → parts ≡ map f (slice_range entries range.0 range.1) → range ≡ (0, n) → n ≡ length entries → parts ≡ map f entries
all_of f entries parts range n are is long =
    are ∙ (ap (λ (r : ℕ × ℕ). map f (slice_range entries r.0 r.1)) (is ∙ ap (λ m. (0, m)) long) ∙ ap (map f) (take_all (length entries - 0) entries (omega arith)))

-- within a list, an index has the same value for any default
pub read_again : {A : Type 0} (xs : List A) (i : ℕ) (d e : A) → i < length xs → get_or xs i d ≡ get_or xs i e
read_again [] i d e within = absurd (omega (arith, within))
read_again (x ∷ xs) zero d e within = refl
read_again (x ∷ xs) (suc i) d e within = read_again xs i d e (omega (arith, within))
