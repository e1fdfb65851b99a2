pub mod Steps
pub mod Text
pub mod ModuleSteps
pub mod Lines
pub mod Reports
pub mod BufferLaws
pub mod Leaves
pub mod Sound
