-- Equality of arenas.
use Rattle.std.specs.Prelude.{Bool, List, ◌&&◌, ◌==◌}
use Rattle.std.specs.Cmp.{IsPartialEquivalence, IsEquivalence, on_per, on_equiv, and_per, and_equiv, nat_eq_equiv, partial_equiv_from_equiv}
use Rattle.std.specs.Cmp.Lexicographic.{pointwise, lists_per, lists_equiv}
use Rattle.ir_arena.specs.declared.span.Span.{Span}

-- equal start and end
abbrev pub same_span : Span → Span → Bool
same_span x y = (x.start == y.start) && (x.end == y.end)

same_span_equiv : IsEquivalence same_span
same_span_equiv = and_equiv (on_equiv (λ s. s.start) nat_eq_equiv) (on_equiv (λ s. s.end) nat_eq_equiv)

-- equally many entries, and at each index values that are equal by `eq`, and equal spans
abbrev pub same_entries : {T : Type 0} → (T → T → Bool) → List (T × Span) → List (T × Span) → Bool
same_entries eq xs ys = pointwise (λ x y. eq x.0 y.0 && same_span x.1 y.1) xs ys

pub same_entries_per : {T : Type 0} {eq : T → T → Bool} → IsPartialEquivalence eq → IsPartialEquivalence (same_entries eq)
same_entries_per laws = lists_per (and_per (on_per (λ e. e.0) laws) (on_per (λ e. e.1) (partial_equiv_from_equiv same_span_equiv)))

pub same_entries_equiv : {T : Type 0} {eq : T → T → Bool} → IsEquivalence eq → IsEquivalence (same_entries eq)
same_entries_equiv laws = lists_equiv (and_equiv (on_equiv (λ e. e.0) laws) (on_equiv (λ e. e.1) same_span_equiv))
