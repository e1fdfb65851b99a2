-- What is used above of `module_steps`, re-exported.
pub use Rattle.module_steps.specs.Faults.{IsExpressionRefused, IsModuleFault}
pub use Rattle.module_steps.specs.Faults as items
pub use Rattle.module_steps.specs.Refusals.{IsVariableFault}
pub use Rattle.module_steps.specs.Refusals as variables
pub use Rattle.module_steps.specs.Reported.{IsInfoOf}
pub use Rattle.module_steps.specs.declared.error.ModuleError.{ModuleError}
pub use Rattle.module_steps.specs.declared.error.ModuleError.TheVariants as step
pub use Rattle.module_steps.specs.declared.globals.InvalidGlobalVariable.{InvalidGlobalVariable}
