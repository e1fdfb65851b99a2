pub mod SpecExpressions
pub mod judged
pub mod found
