pub mod View
pub mod Faults
pub mod Rows
pub mod Steps
