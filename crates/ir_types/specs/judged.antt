pub mod Plain
pub mod ExpressionPlain
