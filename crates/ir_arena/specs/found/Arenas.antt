-- The entries of an arena: its values in order, each with its span. A handle is an index into them.
use Rattle.std.specs.Prelude.{ℕ, Bool, List, [], ◌∷◌, ◌++◌, ◌<◌, true, false, length, if◌then◌else◌, Option, option_map, unwrap_or, map, position, slice_get, slice_set}
use Rattle.std.specs.List.{zip, refill, list_any, position_or_len, IsDistinct, HoldsAt, AllWithin}
use Rattle.ir_arena.specs.declared.span.Span.{Span}
use Rattle.ir_arena.specs.found.Spans.{undefined_span}

-- an entry's value
abbrev pub value_of_entry : {T : Type 0} → T × Span → T
value_of_entry entry = entry.0

-- an entry's span
abbrev pub span_of_entry : {T : Type 0} → T × Span → Span
span_of_entry entry = entry.1

-- the value at a handle, if any
abbrev pub value_at : {T : Type 0} → List (T × Span) → ℕ → Option T
value_at entries handle = option_map value_of_entry (slice_get entries handle)

-- the span at a handle, or the undefined one
abbrev pub span_at : {T : Type 0} → List (T × Span) → ℕ → Span
span_at entries handle = unwrap_or (option_map span_of_entry (slice_get entries handle)) undefined_span

-- the entries with the value at a handle replaced, whose span stays
abbrev pub with_value : {T : Type 0} → List (T × Span) → ℕ → T → List (T × Span)
with_value entries handle value = slice_set entries handle (value, span_at entries handle)

-- the entries with their values replaced by these, whose spans stay
abbrev pub with_values : {T : Type 0} → List (T × Span) → List T → List (T × Span)
with_values entries values = zip (refill (length entries) (map value_of_entry entries) values) (map span_of_entry entries)

-- Here eq is the equality of the values.
module _ {T : Type 0} (eq : T → T → Bool) where
  -- whether an entry's value is equal to this one
  abbrev pub has_value : T → T × Span → Bool
  has_value value entry = eq value entry.0

  -- whether some value is equal to this one
  abbrev pub has_equal : List (T × Span) → T → Bool
  has_equal entries value = list_any (has_value value) entries

  -- no value is equal to a later one
  abbrev pub IsDistinctBy : List (T × Span) → Type 0
  IsDistinctBy entries = IsDistinct (λ d e. eq d.0 e.0) entries

  -- the handle of the first value that is equal to this one
  abbrev pub found_at : List (T × Span) → T → Option ℕ
  found_at entries value = position (has_value value) entries

  -- the index of the first value that is equal to this one, or the length if there is none
  abbrev pub place_of : List (T × Span) → T → ℕ
  place_of entries value = position_or_len (has_value value) entries

  -- the entries after an insertion: unchanged if some value is equal to this one, and otherwise with it appended
  abbrev pub with_entry : List (T × Span) → T → Span → List (T × Span)
  with_entry entries value span =
      if has_equal entries value then entries else entries ++ (value, span) ∷ []

-- Here a test relates a value to a possible result on it.
module _ {T : Type 0} (answers : T → Bool → Type 0) where
  -- the test is true for the value of this handle, and false for those before it
  pub record IsFirstPassing (entries : List (T × Span)) (handle : ℕ) : Type 0 where
    pub within : handle < length entries
    pub passes : HoldsAt (λ entry. answers entry.0 true) entries handle
    pub before : AllWithin (λ entry. answers entry.0 false) entries 0 handle

  -- the test is false for each value
  abbrev pub PassesNowhere : List (T × Span) → Type 0
  PassesNowhere entries = AllWithin (λ entry. answers entry.0 false) entries 0 (length entries)
