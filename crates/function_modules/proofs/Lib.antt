mod Kept
pub mod MadeOf
mod Placed
mod Chained
mod EntryHeld
mod EntrySteps
mod NameSteps
mod ByChains
mod FunctionKept
mod Staged
mod EntryByChains
mod Assembled
