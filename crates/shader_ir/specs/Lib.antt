pub mod Arenas
pub mod Plain
pub mod Spans
pub mod View
pub mod Walks
pub mod Words
