pub mod Faults
pub mod Letters
