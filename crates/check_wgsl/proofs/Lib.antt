pub mod AnsweredLaws
pub mod ExplainedLaws
pub mod Soundness
