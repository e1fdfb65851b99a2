pub mod IrArena
pub mod IrTypes
pub mod judged
pub mod found
