pub mod IrFlags
pub mod judged
pub mod found
