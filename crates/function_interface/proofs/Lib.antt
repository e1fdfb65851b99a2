pub mod AnsweredLemmas
pub mod ArityLaws
pub mod Below
pub mod InterfaceRefuted
mod Known
pub mod RefusedAs
pub mod Runs
mod Widened
