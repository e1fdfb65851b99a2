pub mod Laws
pub mod Ranks
pub mod MathTable
pub mod Types
