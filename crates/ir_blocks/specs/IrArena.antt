-- What is used above of `ir_arena`, re-exported.
pub use Rattle.ir_types.specs.IrArena.{Span, span_at, span_of_entry, value_at, value_of_entry, with_value, entry_of, total_span, undefined_span}
