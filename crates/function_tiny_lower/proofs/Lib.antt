pub mod Typed
mod Effects
mod Joined
mod Kept
