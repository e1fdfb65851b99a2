-- What is used above of `ir_arena`, re-exported.
pub use Rattle.ir_arena.specs.declared.span.Span.{Span}
pub use Rattle.ir_arena.specs.found.Arenas.{span_at, span_of_entry, value_at, value_of_entry, with_value}
pub use Rattle.ir_arena.specs.found.Copies.{entry_of}
pub use Rattle.ir_arena.specs.found.Equality.{same_span}
pub use Rattle.ir_arena.specs.found.Spans.{is_defined_span, span_from, total_span, undefined_span}
