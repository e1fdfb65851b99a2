mod Accepted
pub mod Analysis
pub mod AnswerExamples
mod AnswerKinds
pub mod Answers
pub mod Apart
pub mod Bodies
pub mod Calls
mod Chains
pub mod Completed
pub mod Entries
pub mod Falling
mod Falls
pub mod Finding
pub mod Functions
pub mod Handles
pub mod Heads
pub mod Likeness
mod Lines
pub mod Local
pub mod Modules
pub mod Named
pub mod Reports
pub mod Rules
pub mod ScopeExamples
pub mod Shared
pub mod Sound
pub mod Strict
mod Texts
pub mod Typing
