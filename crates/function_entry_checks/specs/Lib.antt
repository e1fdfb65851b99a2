pub mod Bindings
pub mod Faults
