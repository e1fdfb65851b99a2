mod Places
pub mod KnownLaws
pub mod MarkLaws
mod ArgumentLaws
pub mod Refuted
