pub mod Interfaces
pub mod Contexts
pub mod MeshFaults
pub mod MeshFields
pub mod VaryingFaults
pub mod OutputFaults
pub mod ConnectionFaults
pub mod Laws
