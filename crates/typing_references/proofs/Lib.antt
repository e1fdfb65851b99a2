pub mod FirstLaws
pub mod Entries
pub mod FaultLaws
