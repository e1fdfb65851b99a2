pub mod Kinds
pub mod Expressions
