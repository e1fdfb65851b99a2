pub mod DescriptorLemmas
pub mod EmitLemmas
pub mod CallLemmas
pub mod Refuted
mod CaseLists
mod CaseLemmas
pub mod RootLemmas
