pub mod FactLemmas
pub mod Lookups
pub mod ToldLemmas
pub mod Nexts
pub mod Nearest
pub mod Answered
pub mod Severities
pub mod Known
