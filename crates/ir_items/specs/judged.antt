pub mod Plain
pub mod Returned
pub mod GlobalPlain
pub mod Bases
