pub mod Accepted
pub mod Handles
pub mod Inside
mod Known
pub mod LayoutLaws
mod OverrideTold
pub mod Refusals
pub mod Refuted
pub mod StepLemmas
pub mod ValueLemmas
pub mod WholeLaws
