pub mod Control
pub mod Falls
pub mod Invariance
mod Nesting
mod Reached
pub mod Scopes
pub mod Strict
