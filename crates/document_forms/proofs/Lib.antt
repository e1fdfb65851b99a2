pub mod FormLaws
pub mod RefusalLaws
