pub mod Canonical
pub mod Constructible
pub mod Conversions
pub mod Elements
pub mod Equivalence
pub mod Lengths
