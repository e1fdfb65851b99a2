pub mod ModuleExpressionChecks
pub mod Refuted
