pub mod Images
pub mod Maths
pub mod Scalars
pub mod Spaces
pub mod Values
