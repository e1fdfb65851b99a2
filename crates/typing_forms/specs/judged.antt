pub mod Forms
pub mod Order
pub mod Ranks
pub mod Resolutions
pub mod Parts
pub mod Sizes
