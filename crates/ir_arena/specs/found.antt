pub mod Arenas
pub mod IterMut
pub mod Lends
pub mod Retains
pub mod Spans
pub mod Equality
pub mod Copies
