pub mod Always
pub mod Lists
pub mod Carried
pub mod Faults
pub mod Laws
pub mod Allowed
pub mod ControlFaults
pub mod ControlLaws
