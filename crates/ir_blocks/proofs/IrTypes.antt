-- What is used above of `ir_types`, re-exported.
pub use Rattle.ir_types.proofs.ByView.{eq_by_view}
