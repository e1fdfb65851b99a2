pub mod Answers
pub mod Operands
