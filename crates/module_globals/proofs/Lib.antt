mod Arrays
mod Needs
pub mod Begins
mod Lies
pub mod Whole
mod Broken
pub mod Refuted
pub mod Along
pub mod Bits
pub mod LeafLemmas
pub mod Parts
pub mod SizeLemmas
