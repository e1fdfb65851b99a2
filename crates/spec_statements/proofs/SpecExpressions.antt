-- What is used above of `spec_expressions`, re-exported.
pub use Rattle.spec_expressions.proofs.Members.{get-within}
