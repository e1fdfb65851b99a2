pub mod Either
pub mod Products
pub mod Rows
pub mod Sets
