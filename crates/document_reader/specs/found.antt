pub mod View
pub mod Reasons
pub mod Documents
pub mod Kinds
pub mod Statements
pub mod Functions
