pub mod Accepted
pub mod AcceptedLaws
pub mod Alike
pub mod ReturnLaws
pub mod RunExamples
pub mod Whole
pub mod Worked
