pub mod Hints
pub mod ItemNames
