-- What is used above of `typing_forms`, re-exported.
pub use Rattle.typing_forms.proofs.Lookups.{inner_found}
