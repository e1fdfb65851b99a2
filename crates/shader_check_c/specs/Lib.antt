pub mod Answers
pub mod Wgsl
