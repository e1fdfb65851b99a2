pub mod BuiltIns
pub mod Found
pub mod Locations
pub mod Members
pub mod Meshes
pub mod UsedVariables
pub mod Variables
pub mod Worked
