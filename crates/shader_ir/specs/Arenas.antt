-- The definitions for the contracts of arenas, handles and spans, re-exported.
pub use Rattle.ir_arena.specs.found.Arenas.{value_of_entry, span_of_entry, value_at, span_at}
pub use Rattle.ir_arena.specs.found.Arenas.{has_value, has_equal, IsDistinctBy, found_at, place_of, with_entry}
pub use Rattle.ir_arena.specs.judged.Handles.{handle_with_value, handles_from}
pub use Rattle.ir_arena.specs.found.Spans.{span_from, undefined_span, is_defined_span, joined_span}
