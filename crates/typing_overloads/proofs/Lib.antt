pub mod Arity
pub mod Kept
pub mod Masks
