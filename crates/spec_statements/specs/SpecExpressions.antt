-- What is used above of `spec_expressions`, re-exported.
pub use Rattle.spec_expressions.specs.declared.global_use.GlobalUse.{GlobalUse}
pub use Rattle.spec_expressions.specs.declared.global_use.TheConstants.GlobalUse as use_
pub use Rattle.spec_expressions.specs.judged.CallChains.{HasUse}
pub use Rattle.spec_expressions.specs.judged.FunctionHandles.{CalleesPrecede}
pub use Rattle.spec_expressions.specs.judged.Overrides.{IsKnownByOverrides}
pub use Rattle.spec_expressions.specs.judged.References.{computed, done, expression_names, statement_calls}
pub use Rattle.spec_expressions.specs.judged.Summaries.{no_use}
pub use Rattle.spec_expressions.specs.judged.Typing.{HasGlobalType}
