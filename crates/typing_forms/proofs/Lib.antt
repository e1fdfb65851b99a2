pub mod FormEquality
pub mod Lookups
mod CanonicalForms
mod Constructed
mod Orders
mod Shapes
mod Walks
