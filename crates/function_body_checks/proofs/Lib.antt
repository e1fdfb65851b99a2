pub mod Lists
mod Ranges
mod Firsts
pub mod Tables
mod Walks
mod Conversions
pub mod FaultLaws
pub mod Refuted
mod ControlPlaces
pub mod ControlRefuted
