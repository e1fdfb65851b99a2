pub mod Calls
pub mod Sink
pub mod Source
