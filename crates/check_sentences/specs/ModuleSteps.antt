-- What is used above of `module_steps`, re-exported.
pub use Rattle.function_errors.specs.ModuleSteps.step as step
