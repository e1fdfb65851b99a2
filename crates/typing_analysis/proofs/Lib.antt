pub mod Joined
pub mod Named
pub mod InfoLemmas
pub mod KeptLemmas
pub mod SummaryLemmas
