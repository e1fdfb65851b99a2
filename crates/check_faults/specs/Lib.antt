pub mod Parts
pub mod Tables
pub mod Names
pub mod Paths
pub mod Objects
