-- A value that is copied from an arena of distinct values is new to the copy.
use Rattle.std.proofs.Common.{◌≡◌, ℕ, zero, suc, ◌+◌, ◌<◌, Bool, false, ◌||◌, List, [], ◌∷◌, ◌++◌, length, map, take, get_or, Some, option_map, slice_get, refl, ap, subst, ◌∙◌}
use Rattle.std.specs.Cmp.{IsEquivalence}
use Rattle.std.specs.List.{AllByRecursion, IsDistinct}
use Rattle.std.proofs.lemmas.Option.{slice_get-get_or, same_Some}
use Rattle.ir_arena.specs.found.Arenas.{value_of_entry, span_at, has_equal}
use Rattle.ir_arena.specs.declared.span.Span.{Span}
use Rattle.ir_arena.specs.found.Copies.{entry_of}
use Rattle.ir_arena.proofs.CopyLemmas.{same_values, entries_more}

both_parts : {A : Type 0} (x y : A) (xs ys : List A) → x ∷ xs ≡ y ∷ ys → (x ≡ y) × (xs ≡ ys)
both_parts x y xs ys e = ((let h = e in cc), (let h = e in cc))

one_of_all : {A : Type 0} (P : A → Type 0) (xs : List A) (k : ℕ) (x : A) → AllByRecursion P xs → slice_get xs k ≡ Some x → P x
one_of_all P [] k x h e = let g = e in cc
one_of_all P (y ∷ ys) zero x h e = subst P (let g = e in cc) h.0
one_of_all P (y ∷ ys) (suc k) x h e = one_of_all P ys k x h.1 e

-- Here values with equal views compare equal.
module _ {T View : Type 0} (view : T → View) (eq : T → T → Bool) (laws : IsEquivalence eq)
    (same : (a b x y : T) → view a ≡ view b → view x ≡ view y → eq a x ≡ eq b y) where
  equal_by_view : (xs ys : List (T × Span)) (a b : T) → map view (map value_of_entry xs) ≡ map view (map value_of_entry ys) → view a ≡ view b → has_equal eq xs a ≡ has_equal eq ys b
  equal_by_view [] [] a b e f = refl
  equal_by_view [] (y ∷ ys) a b e f = let h = e in cc
  equal_by_view (x ∷ xs) [] a b e f = let h = e in cc
  equal_by_view (x ∷ xs) (y ∷ ys) a b e f =
      let parts = both_parts (view x.0) (view y.0) (map view (map value_of_entry xs)) (map view (map value_of_entry ys)) e in
      λ i. same a b x.0 y.0 f parts.0 i || equal_by_view xs ys a b parts.1 f i

  -- no earlier value is equal to a later one
  none_before : (xs : List (T × Span)) (k : ℕ) (x : T × Span) → IsDistinct (λ d e. eq d.0 e.0) xs → slice_get xs k ≡ Some x → has_equal eq (take k xs) x.0 ≡ false
  unfolding IsDistinct
  none_before [] k x h e = let g = e in cc
  none_before (y ∷ ys) zero x h e = refl
  none_before (y ∷ ys) (suc k) x h e =
      let first : eq x.0 y.0 ≡ false = laws.symm x.0 y.0 ∙ one_of_all (λ z. eq y.0 z.0 ≡ false) ys k x h.0 e in
      let rest = none_before ys k x h.1 e in
      λ i. first i || rest i

  -- the next value is appended to the copies
  pub values_more : (values copied after : List (T × Span)) (k : ℕ) (x clone : T) (span : Span) → IsDistinct (λ d e. eq d.0 e.0) values → k < length values
      → Some x ≡ option_map value_of_entry (slice_get values k) → view clone ≡ view x → span ≡ span_at values k → map (entry_of view) copied ≡ map (entry_of view) (take k values)
      → (has_equal eq copied clone ≡ false → after ≡ copied ++ (clone, span) ∷ []) → map (entry_of view) after ≡ map (entry_of view) (take (k + 1) values)
  values_more values copied after k x clone span distinct lt at held_same spanned held added =
      let d : T × Span = (x, span) in
      let entry : T × Span = get_or values k d in
      let found : slice_get values k ≡ Some entry = slice_get-get_or values k d lt in
      let x_is : x ≡ entry.0 = same_Some x entry.0 (at ∙ ap (option_map value_of_entry) found) in
      let new : has_equal eq copied clone ≡ false =
      equal_by_view copied (take k values) clone entry.0 (same_values view copied (take k values) held) (held_same ∙ ap view x_is) ∙ none_before values k entry distinct found in
      entries_more view values copied after k x clone span lt at held_same spanned held (added new)
