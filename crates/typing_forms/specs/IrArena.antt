-- What is used above of `ir_arena`, re-exported.
pub use Rattle.ir_types.specs.IrArena.{Span, value_at, value_of_entry}
