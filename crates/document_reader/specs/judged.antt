pub mod Distinct
pub mod Plain
pub mod Form
pub mod StatementForm
pub mod FunctionForm
pub mod EntryForm
