pub mod View
pub mod Atomics
pub mod StorageImages
pub mod UniformLoads
pub mod Laws
