pub mod Form
pub mod ItemForm
