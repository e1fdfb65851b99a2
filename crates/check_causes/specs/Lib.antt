pub mod Access
pub mod Bodies
pub mod Conversions
pub mod Operators
pub mod Selections
pub mod Swizzles
pub mod Causes
