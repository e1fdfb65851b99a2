pub mod Formats
pub mod Present
pub mod Refusals
pub mod Refuted
pub mod Scalars
pub mod Texels
