pub mod judged
pub mod found
