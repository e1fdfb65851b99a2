pub mod Index
pub mod Runs
