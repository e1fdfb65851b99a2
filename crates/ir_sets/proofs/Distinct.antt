-- Distinct values with their spans, and the replacement of one of them.
use Rattle.std.proofs.Common.{◌≡◌, ◌<◌, ◌≤◌, ◌-◌, ℕ, zero, suc, Bool, false, ◌||◌, List, [], ◌∷◌, ◌++◌, length, take, get_or, refl, sym, ap, subst, ◌∙◌, if◌then◌else◌, slice_get, arith, map, true, None, Some, Option, IfSome}
use Rattle.std.specs.Prelude.{slice_set, swap_remove, IfNone}
use Rattle.std.specs.List.{list_any, zip, AllByRecursion, IsDistinct}
use Rattle.std.proofs.lemmas.List.{length_push}
use Rattle.std.proofs.lemmas.Option.{slice_get-get_or}
use Rattle.ir_arena.specs.declared.span.Span.{Span}
use Rattle.ir_arena.specs.found.Arenas.{value_of_entry, has_value, has_equal, found_at, place_of, IsDistinctBy}
use Rattle.ir_arena.proofs.Found.{passes_at, passes_nowhere, none_passes}

module _ {T : Type 0} where
  all_values : (P : T → Type 0) (values : List T) (spans : List Span) → AllByRecursion P values → AllByRecursion (λ entry. P entry.0) (zip values spans)
  all_values P [] spans all = tt
  all_values P (v ∷ values) [] all = tt
  all_values P (v ∷ values) (s ∷ spans) all = (all.0, all_values P values spans all.1)

  -- distinct values are distinct entries
  pub distinct_entries : (eq : T → T → Bool) (values : List T) (spans : List Span) → IsDistinct eq values → IsDistinctBy eq (zip values spans)
  unfolding IsDistinct
  distinct_entries eq [] spans distinct = tt
  distinct_entries eq (v ∷ values) [] distinct = tt
  distinct_entries eq (v ∷ values) (s ∷ spans) distinct = (all_values (λ w. eq v w ≡ false) values spans distinct.0, distinct_entries eq values spans distinct.1)

  -- a search of the values is one of the entries
  pub list_any_values : (p : T → Bool) (entries : List (T × Span)) → list_any p (map value_of_entry entries) ≡ list_any (λ e. p e.0) entries
  list_any_values p [] = refl
  list_any_values p (e ∷ entries) = ap (λ b. p e.0 || b) (list_any_values p entries)

  take_front : (xs ys : List T) → take (length xs) (xs ++ ys) ≡ xs
  take_front [] ys = refl
  take_front (x ∷ xs) ys = ap (λ l. x ∷ l) (take_front xs ys)

  at_end : (xs : List T) (v d : T) → get_or (xs ++ v ∷ []) (length xs) d ≡ v
  at_end [] v d = refl
  at_end (x ∷ xs) v d = at_end xs v d

  taken : (xs : List T) (p : ℕ) (v : T) → p < length xs → take (length xs) (slice_set (xs ++ v ∷ []) p v) ≡ slice_set xs p v
  taken [] p v low = absurd (omega (arith, low))
  taken (x ∷ xs) zero v low = ap (λ l. v ∷ l) (take_front xs (v ∷ []))
  taken (x ∷ xs) (suc p) v low = ap (λ l. x ∷ l) (taken xs p v (omega (arith, low)))

  -- the value that was appended replaces another
  pub last_moved : (xs : List T) (p : ℕ) (v d : T) → p < length xs → swap_remove (xs ++ v ∷ []) p d ≡ slice_set xs p v
  last_moved xs p v d low =
      let all = xs ++ v ∷ [] in
      let n : length all - 1 ≡ length xs = omega (arith, length_push xs v) in
      ap (λ m. take m (slice_set all p (get_or all m d))) n ∙ (ap (λ w. take (length xs) (slice_set all p w)) (at_end xs v d) ∙ taken xs p v low)

  -- a value that is equal to none is appended
  pub put_last : (eq : T → T → Bool) (values grown : List T) (entries : List (T × Span)) (v : T) → values ≡ map value_of_entry entries → has_equal eq entries v ≡ false
      → grown ≡ (if list_any (eq v) values then values else values ++ v ∷ []) → grown ≡ values ++ v ∷ []
  put_last eq values grown entries v are absent is =
      is ∙ ap (λ b. if b then values else values ++ v ∷ []) (ap (list_any (eq v)) are ∙ (list_any_values (eq v) entries ∙ absent))

  -- the appended value replaces the one that is removed
  pub exchanged : (values grown left : List T) (p : ℕ) (v : T) (out : Option T) → p < length values → grown ≡ values ++ v ∷ [] → out ≡ slice_get grown p → IfSome out (λ x. left ≡ swap_remove grown p x)
      → left ≡ slice_set values p v
  exchanged values grown left p v out low is there removed =
      let found = there ∙ slice_get-get_or grown p v (omega (arith, ap length is, length_push values v, low)) in
      subst (λ o. IfSome o (λ x. left ≡ swap_remove grown p x)) found removed
      ∙ (ap (λ l. swap_remove l p (get_or grown p v)) is ∙ last_moved values p v (get_or grown p v) low)

-- an index into few values, and into their entries
pub within_both : (found : Option ℕ) (n m : ℕ) → n ≡ m → n ≤ 4294967295 → IfSome found (λ p. p < n) → IfSome found (λ p. (p < m) × (p < 4294967295))
within_both None n m same few low = tt
within_both (Some p) n m same few low = (omega (arith, same, low), omega (arith, few, low))

-- the index where a value is found, or that there is none
module _ {T : Type 0} (eq : T → T → Bool) (entries : List (T × Span)) (value : T) where
  pub found_present : (found : Option ℕ) → found ≡ found_at eq entries value → IfSome found (λ place. (has_equal eq entries value ≡ true) × (place_of eq entries value ≡ place))
  found_present None is = tt
  found_present (Some place) is = passes_at (has_value eq value) entries place (sym is)

  pub found_absent : (found : Option ℕ) → found ≡ found_at eq entries value → IfNone found ((has_equal eq entries value ≡ false) × (place_of eq entries value ≡ length entries))
  found_absent None is =
      let absent = passes_nowhere (has_value eq value) entries (sym is) in
      (absent, none_passes (has_value eq value) entries absent)
  found_absent (Some place) is = tt
