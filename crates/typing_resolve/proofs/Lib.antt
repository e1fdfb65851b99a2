pub mod Decided
pub mod Taken
