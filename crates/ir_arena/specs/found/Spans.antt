-- The view of a span.
use Rattle.std.specs.Prelude.{ℕ, Bool, not, ◌&&◌, ◌==◌, min, max, if◌then◌else◌, List, fold}
use Rattle.ir_arena.specs.declared.span.Span.{Span}

-- the span from start, included, to end, excluded
abbrev pub span_from : ℕ → ℕ → Span
span_from start end = record { start = start; end = end }

-- the undefined span, `Span::UNDEFINED`
abbrev pub undefined_span : Span
undefined_span = span_from 0 0

-- whether the span is defined
abbrev pub is_defined_span : Span → Bool
is_defined_span s = not ((s.start == 0) && (s.end == 0))

-- from the lesser start to the greater end if both are defined, otherwise the one that is
abbrev pub joined_span : Span → Span → Span
joined_span a b =
    if is_defined_span a then (if is_defined_span b then span_from (min a.start b.start) (max a.end b.end) else a) else b

-- from the start of the first to the end of the other
abbrev pub span_until : Span → Span → Span
span_until a b = span_from a.start b.end

-- the union of all of these
abbrev pub total_span : List Span → Span
total_span spans = fold joined_span undefined_span spans
