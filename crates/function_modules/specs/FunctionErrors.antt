-- What is used above of `function_errors`, re-exported.
pub use Rattle.function_errors.specs.Spans.{IsRefusedAt}
pub use Rattle.function_errors.specs.declared.error.ValidationError.{ValidationError}
pub use Rattle.function_errors.specs.declared.error.ValidationError.TheVariants as error
