pub mod Events
pub mod Reached
pub mod Scoping
pub mod Machine
pub mod FinalSwitches
pub mod Good
pub mod Laws
