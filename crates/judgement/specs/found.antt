pub mod ModuleLaws
pub mod ReportLaws
