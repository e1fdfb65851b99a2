pub mod Lookup
pub mod Tables
pub mod Unions
