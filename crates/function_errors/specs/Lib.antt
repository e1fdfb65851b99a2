pub mod ModuleSteps
pub mod Labels
pub mod Spans
pub mod Subjects
