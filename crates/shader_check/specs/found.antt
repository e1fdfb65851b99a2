pub mod Examined
pub mod Judgements
pub mod Fresh
pub mod Reported
