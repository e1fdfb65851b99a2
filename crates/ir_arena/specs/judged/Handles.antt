-- The items of an iterator over an arena.
use Rattle.std.specs.Prelude.{ℕ, ◌+◌, ◌-◌, List, [], ◌∷◌}
use Rattle.std.specs.List.{range_with_len}
use Rattle.std.specs.Borrow.{Bor}
use Rattle.ir_arena.specs.declared.span.Span.{Span}

-- a handle with a reference to a value
abbrev pub handle_with_value : {T : Type 0} → ℕ × Bor T → ℕ × T
handle_with_value p = (p.0, p.1.now)

-- the values with their handles, the first of which is this one
abbrev pub handles_from : {T : Type 0} → ℕ → List (T × Span) → List (ℕ × T)
handles_from place [] = []
handles_from place (entry ∷ rest) = (place, entry.0) ∷ handles_from (place + 1) rest

-- the values with their handles and their spans, the first handle being this one
abbrev pub entries_from : {T : Type 0} → ℕ → List (T × Span) → List (ℕ × T × Span)
entries_from place [] = []
entries_from place (entry ∷ rest) = (place, entry.0, entry.1) ∷ entries_from (place + 1) rest

-- the handles of a range, from its start, included, to its end, excluded
abbrev pub handles_between : ℕ × ℕ → List ℕ
handles_between range = range_with_len range.0 (range.1 - range.0)
