pub mod Places
pub mod Marks
pub mod Known
pub mod Laws
