pub mod Views
pub mod ExpressionViews
pub mod Faults
