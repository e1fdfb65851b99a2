-- Spans that are stored up to the last defined one, padded with undefined spans to the number of statements.
use Rattle.std.specs.Prelude.{◌≡◌, ◌≤◌, ℕ, zero, suc, Bool, IsTrue, List, [], ◌∷◌, length, Option, Some, None, Vec, Box, if◌then◌else◌}
use Rattle.std.specs.declared.alloc.Global.{Global}
use Rattle.std.specs.Cmp.{IsPartialEquivalence, IsEquivalence, on_per, on_equiv, and_equiv, nat_eq_equiv, partial_equiv_from_equiv}
use Rattle.std.specs.Cmp.Lexicographic.{pointwise, lists_per}
use Rattle.ir_types.specs.IrArena.{Span, same_span, undefined_span, is_defined_span}
use Rattle.ir_blocks.specs.found.Spans.{tail_of}

-- the spans in an optional list
abbrev pub listed_spans : Option (Box (Vec Span Global) Global) → List Span
listed_spans None = []
listed_spans (Some list) = list.value.items

-- the first stored span, or the undefined one
abbrev pub first_kept : List Span → Span
first_kept [] = undefined_span
first_kept (x ∷ kept) = x

-- n spans: the stored ones in order, followed by undefined ones
abbrev pub padded : ℕ → List Span → List Span
padded zero kept = []
padded (suc n) kept = first_kept kept ∷ padded n (tail_of kept)

-- ---- equality

-- a span before others, dropped if it and all others are undefined
abbrev pub before_defined : Span → List Span → List Span
before_defined x [] = if is_defined_span x then x ∷ [] else []
before_defined x (y ∷ kept) = x ∷ y ∷ kept

-- the spans up to the last defined one
abbrev pub up_to_defined : List Span → List Span
up_to_defined [] = []
up_to_defined (x ∷ kept) = before_defined x (up_to_defined kept)

same_span_equiv : IsEquivalence same_span
same_span_equiv = and_equiv (on_equiv (λ s. s.start) nat_eq_equiv) (on_equiv (λ s. s.end) nat_eq_equiv)

-- equality of spans up to the last defined one
abbrev pub same_kept : List Span → List Span → Bool
same_kept xs ys = pointwise same_span (up_to_defined xs) (up_to_defined ys)

pub same_kept_per : IsPartialEquivalence same_kept
same_kept_per = on_per up_to_defined (lists_per (partial_equiv_from_equiv same_span_equiv))

-- if the stored spans of two blocks of n statements are equal, all of their spans are; the converse holds if
-- neither stores more than n
abbrev pub KeptEquality : Type 0
KeptEquality = (n : ℕ) (xs ys : List Span) → (IsTrue (same_kept xs ys) → padded n xs ≡ padded n ys) × (length xs ≤ n → length ys ≤ n → padded n xs ≡ padded n ys → IsTrue (same_kept xs ys))
