-- What is used above of `ir_arena`, re-exported.
pub use Rattle.ir_types.proofs.IrArena.{same_values}
