pub mod Absent
pub mod Constness
pub mod Lookups
pub mod Refusals
