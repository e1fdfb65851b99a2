-- The view of an arena at a handle, re-exported.
pub use Rattle.ir_items.proofs.Lookups.{found, many_viewed, missing}
