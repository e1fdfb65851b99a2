-- What is used above of `typing_forms`, re-exported.
pub use Rattle.typing_forms.specs.declared.form.Form.{Form}
pub use Rattle.typing_forms.specs.declared.form.Form.TheVariants as form
pub use Rattle.typing_forms.specs.declared.resolution.TypeResolution.{TypeResolution}
pub use Rattle.typing_forms.specs.found.Equivalence.{AreEquivalent}
pub use Rattle.typing_forms.specs.judged.Forms.{form_of, form_of_type, pointing}
pub use Rattle.typing_forms.specs.judged.Order.{TypesGoBack, declared_size, named_types}
pub use Rattle.typing_forms.specs.judged.Parts.{components_of, scalar_of}
pub use Rattle.typing_forms.specs.judged.Resolutions.{PlainResolution, by_handle, by_value, inner_at, resolution_view, types_view}
pub use Rattle.typing_forms.specs.judged.Sizes.{rounded_up}
