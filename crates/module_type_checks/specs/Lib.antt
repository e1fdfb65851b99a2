pub mod Known
pub mod Placed
pub mod Widths
pub mod Blends
pub mod Checked
pub mod Images
pub mod Kinds
pub mod Sets
