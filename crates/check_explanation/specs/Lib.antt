pub mod Answered
pub mod Explained
pub mod Lines
pub mod Listed
pub mod Objects
