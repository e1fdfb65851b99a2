pub mod Lists
pub mod View
pub mod Copies
pub mod GlobalView
pub mod Filters
pub mod Flat
pub mod Emitted
