pub mod Errors
pub mod LiveLemmas
pub mod Places
pub mod Ranges
pub mod Refuted
pub mod Statements
pub mod Walks
