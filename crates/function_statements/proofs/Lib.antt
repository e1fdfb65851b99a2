pub mod OperationRefuted
pub mod PayloadLemmas
mod Places
pub mod Refuted
pub mod SubgroupRefuted
pub mod SwitchRefuted
