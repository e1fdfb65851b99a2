pub mod OrderLaws
pub mod SameLemmas
pub mod Ordered
