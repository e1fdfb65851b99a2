pub mod IrTypes
pub mod TypingForms
pub mod found
pub mod judged
