pub mod Leading
pub mod Placed
