pub mod Letters
pub mod Members
pub mod OldValues
