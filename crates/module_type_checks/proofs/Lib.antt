pub mod Known
pub mod PlacedLaws
pub mod Places
pub mod Scalars
pub mod Checks
pub mod SameInner
pub mod Sources
mod FlagLaws
mod Sets
