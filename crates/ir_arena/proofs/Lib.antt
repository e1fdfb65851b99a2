pub mod Zipped
pub mod Distinct
pub mod Entries
pub mod Found
pub mod Kept
pub mod CopyLemmas
