-- The broken rules of an optional integer operand.
use Rattle.std.specs.Prelude.{◌≡◌, ℕ, List, Option, None, Bool, true, false, IsSome, IsSomeAnd}
use Rattle.typing_forms.specs.declared.form.Form.{Form}
use Rattle.spec_statements.specs.judged.Scene.{form_among}
use Rattle.spec_statements.specs.judged.Shapes.{IsIntegerScalar}
use Rattle.check_image_causes.specs.declared.numbers.NumberCause.{NumberCause}
use Rattle.check_image_causes.specs.declared.numbers.NumberCause.TheVariants.{Missing, Unwanted, NoInteger}

abbrev pub BrokenNumber : (forms : List Form) → (wanted : Bool) → (number : Option ℕ) → NumberCause → Type 0
BrokenNumber forms wanted number Missing = (wanted ≡ true) × (number ≡ None)
BrokenNumber forms wanted number Unwanted = (wanted ≡ false) × IsSome number
BrokenNumber forms wanted number (NoInteger given) = IsSomeAnd number (λ e. (given ≡ form_among forms e) × ¬ IsIntegerScalar (form_among forms e))
