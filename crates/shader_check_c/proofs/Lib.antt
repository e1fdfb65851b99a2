pub mod Answered
pub mod Listed
pub mod ListedWgsl
