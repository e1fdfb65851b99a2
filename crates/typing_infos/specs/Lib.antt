pub mod Codes
pub mod Infos
pub mod Keys
pub mod Marks
pub mod Stored
pub mod Types
