pub mod Counts
pub mod Filters
pub mod Order
pub mod TableOrder
pub mod MemberBits
pub mod Ones
