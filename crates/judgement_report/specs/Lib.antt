pub mod Reported
pub mod Laws
pub mod Rows
pub mod Runs
pub mod Paths
pub mod Lines
