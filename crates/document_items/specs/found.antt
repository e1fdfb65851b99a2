pub mod Kinds
pub mod Types
pub mod Items
pub mod Special
