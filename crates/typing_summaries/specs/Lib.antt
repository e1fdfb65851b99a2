pub mod Fronts
pub mod Joined
pub mod Listed
pub mod Pairings
pub mod Parts
pub mod Passed
pub mod Tallied
pub mod Tallies
