pub mod FunctionInterface
pub mod FunctionEntries
pub mod Faults
pub mod Judged
pub mod EntryFaults
pub mod Validated
pub mod EntryNames
pub mod Globals
