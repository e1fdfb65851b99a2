pub mod Kept
pub mod ModuleLaws
pub mod JudgedLaws
pub mod Returns
pub mod Expected
mod Failing
pub mod Once
mod Fresh
pub mod Promises
pub mod SomeText
