pub mod Values
pub mod Known
pub mod Typing
pub mod Operations
pub mod Ends
pub mod Readings
pub mod Laws
