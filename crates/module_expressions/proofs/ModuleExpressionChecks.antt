-- What is used above of `module_expression_checks`, re-exported.
pub use Rattle.module_expression_checks.proofs.OldValues.{by_none, by_test}
