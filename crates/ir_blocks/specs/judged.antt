pub mod Plain
pub mod Shapes
pub mod Places
pub mod Tails
pub mod Control
