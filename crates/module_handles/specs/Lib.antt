pub mod Lists
pub mod Found
pub mod InOrder
pub mod Errors
pub mod LookupFound
pub mod Steps
pub mod Types
