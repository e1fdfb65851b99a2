mod Bits
mod VariableLemmas
pub mod UsedLaws
mod SeenLaws
