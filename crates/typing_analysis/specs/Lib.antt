pub mod Faults
pub mod Infos
pub mod Kept
pub mod Processed
pub mod Summarized
