mod Reported
pub mod MeshLaws
pub mod Refuted
pub mod Transport
