pub mod CallLaws
pub mod ConstantLaws
pub mod Everywhere
pub mod Found
pub mod Laws
pub mod Words
pub mod Meshes
pub mod Arguments
