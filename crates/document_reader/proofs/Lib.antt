pub mod Distinct
pub mod Seam
pub mod Candidates
pub mod Steps
