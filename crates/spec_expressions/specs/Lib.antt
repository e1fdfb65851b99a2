pub mod IrItems
pub mod TypingRules
pub mod TypingForms
pub mod found
pub mod judged
