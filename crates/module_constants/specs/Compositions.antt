-- The errors of composing a value of a type.
use Rattle.std.specs.Prelude.{◌≡◌, ◌≢◌, ℕ, List, Some, None, min, slice_get}
use Rattle.typing_errors.specs.declared.compose.ComposeError.{ComposeError}
use Rattle.typing_errors.specs.declared.compose.ComposeError.TheVariants as compose
use Rattle.ir_types.specs.judged.Plain.{PlainInner, PlainType}
use Rattle.spec_expressions.specs.judged.Compose.{ComponentFits, parts_given}
use Rattle.typing_forms.specs.judged.Resolutions.{inner_at}
use Rattle.typing_forms.specs.declared.form.Form.{Form}
use Rattle.typing_forms.specs.judged.Parts.{components_of}

-- an integer, saturated to 32 bits
abbrev pub in_32_bits : ℕ → ℕ
in_32_bits n = min n 4294967295

-- the type at a handle can't be composed
abbrev pub IsNotComposed : List PlainType → (type : ℕ) → Type 0
IsNotComposed types type = (i : PlainInner) → inner_at types type ≡ Some i → components_of i ≡ None

-- the type has a number of parts, and another number of components is given
pub record IsCountFault (types : List PlainType) (type : ℕ) (forms : List Form) (given expected : ℕ) : Type 0 where
  pub i : PlainInner
  pub at : inner_at types type ≡ Some i
  pub parts : ℕ
  pub has : components_of i ≡ Some parts
  pub other : parts_given i forms ≢ parts
  pub told_given : given ≡ in_32_bits (parts_given i forms)
  pub told_parts : expected ≡ in_32_bits parts

-- the type has parts, and the component at this index has the wrong type
pub record IsComponentFault (types : List PlainType) (type : ℕ) (forms : List Form) (index : ℕ) : Type 0 where
  pub i : PlainInner
  pub at : inner_at types type ≡ Some i
  pub parts : ℕ
  pub has : components_of i ≡ Some parts
  pub place : ℕ
  pub f : Form
  pub stands : slice_get forms place ≡ Some f
  pub unfit : ¬ ComponentFits types i place f
  pub told : index ≡ in_32_bits place

abbrev pub IsComposeFault : List PlainType → (type : ℕ) → List Form → ComposeError → Type 0
IsComposeFault types type forms (compose.Typing ty) = (ty ≡ type) × IsNotComposed types type
IsComposeFault types type forms (compose.ComponentCount given expected) = IsCountFault types type forms given expected
IsComposeFault types type forms (compose.ComponentType index) = IsComponentFault types type forms index
