mod Below
mod Bases
mod Marks
mod TakeLaws
mod PartLaws
mod Whole
mod Refuted
mod Noted
mod NameLaws
mod GlobalLemmas
pub mod EntryWhole
