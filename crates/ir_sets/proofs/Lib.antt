pub mod Members
pub mod Parts
pub mod Words
pub mod Copied
pub mod Distinct
