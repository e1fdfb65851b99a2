-- What is used above of `ir_arena`, re-exported.
pub use Rattle.ir_arena.proofs.CopyLemmas.{same_values}
