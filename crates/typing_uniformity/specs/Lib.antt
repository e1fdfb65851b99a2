pub mod Facts
pub mod Nearest
pub mod Reported
pub mod Requiring
pub mod Uniform
pub mod Faults
