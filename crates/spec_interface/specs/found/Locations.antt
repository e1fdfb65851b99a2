-- The element type of an array of length three.
use Rattle.std.specs.Prelude.{ℕ, Option, option_and_then}
use Rattle.spec_interface.specs.judged.BuiltIns.{array_of_form}
use Rattle.spec_interface.specs.judged.Locations.{three}
use Rattle.typing_forms.specs.declared.form.Form.{Form}

-- the elements of an array of length three, by its form
abbrev pub of_three : Form → Option ℕ
of_three t = option_and_then (λ a. three a.0 a.1) (array_of_form t)
