pub mod AcceptedTypes
pub mod Refused
pub mod OperandView
