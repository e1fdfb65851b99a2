-- What is used above of `typing_forms`, re-exported.
pub use Rattle.typing_layout.specs.TypingForms.{Form, TypeResolution, form_of, form_of_type, declared_size, inner_at, resolution_view, types_view}
pub use Rattle.typing_layout.specs.TypingForms.form as form
