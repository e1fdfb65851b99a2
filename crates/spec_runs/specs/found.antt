pub mod Invariants
pub mod Ended
pub mod Worked
