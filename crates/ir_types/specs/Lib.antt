pub mod IrKinds
pub mod IrArena
pub mod judged
pub mod found
