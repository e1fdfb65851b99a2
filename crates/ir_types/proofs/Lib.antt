pub mod IrArena
pub mod BuiltIns
pub mod Choices
pub mod Same
pub mod TypeEquality
pub mod ByView
pub mod Known
