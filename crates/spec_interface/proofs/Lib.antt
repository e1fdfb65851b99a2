pub mod OneStages
mod Finds
pub mod Places
pub mod Equal
