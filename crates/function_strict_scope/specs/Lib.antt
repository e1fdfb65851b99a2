pub mod Faults
pub mod Laws
pub mod Live
pub mod Tables
pub mod Walked
