-- `Compose` expressions, by the forms of their components.
use Rattle.std.specs.Prelude.{◌≡◌, ◌≢◌, ◌<◌, ◌⊎◌, ℕ, List, Option, Some, None, map, slice_get, unwrap_or}
use Rattle.module_constants.specs.Compositions.{in_32_bits}
use Rattle.typing_errors.specs.declared.compose.ComposeError.{ComposeError}
use Rattle.typing_errors.specs.declared.compose.ComposeError.TheVariants as compose
use Rattle.ir_kinds.specs.declared.scalars.Scalar.{Scalar}
use Rattle.ir_types.specs.judged.Plain.{PlainMember, PlainType}
use Rattle.module_constants.specs.declared.components.Components.{Components}
use Rattle.module_constants.specs.declared.components.Components.TheVariants.{Expressions, Types}
use Rattle.spec_expressions.specs.judged.Compose.{IsOfScalar, scalars_in}
use Rattle.typing_forms.specs.judged.Forms.{form_of_type}
use Rattle.typing_forms.specs.judged.Resolutions.{types_view}
use Rattle.typing_forms.specs.declared.form.Form.{Form}
use Rattle.typing_forms.specs.declared.form.Form.TheVariants as form
use Rattle.typing_errors.specs.Answers.{form_given}

-- ---- the forms of components

-- the form of an expression's type, if the type is known
abbrev pub form_known : (forms : List Form) → (expression : ℕ) → Form
form_known forms expression = unwrap_or (slice_get forms expression) form.Nothing

abbrev pub forms_of : Components → List Form
forms_of (Expressions forms handles) = map (form_known forms.now) handles.now
forms_of (Types types resolutions) = map (form_given (types_view types.now)) resolutions.now

-- the number of scalars a component adds to a vector of a scalar type, if it is allowed there
abbrev pub AreScalars : Scalar → Form → Option ℕ → Type 0
AreScalars scalar f (Some n) = IsOfScalar scalar f × (n ≡ scalars_in f)
AreScalars scalar f None = ¬ IsOfScalar scalar f

-- ---- index by index

-- every component before an index is allowed
pub record FitBelow (May : ℕ → Form → Type 0) (forms : List Form) (place : ℕ) : Type 0 where
  pub each : (k : ℕ) (f : Form) → k < place → slice_get forms k ≡ Some f → May k f

-- every component is allowed
pub record AllFit (May : ℕ → Form → Type 0) (forms : List Form) : Type 0 where
  pub each : (k : ℕ) (f : Form) → slice_get forms k ≡ Some f → May k f

-- the component at an index is not allowed
pub record IsMisfit (May : ℕ → Form → Type 0) (forms : List Form) (e : ComposeError) : Type 0 where
  pub place : ℕ
  pub f : Form
  pub stands : slice_get forms place ≡ Some f
  pub unfit : ¬ May place f
  pub told : e ≡ compose.ComponentType (in_32_bits place)

-- the number of components is not the expected one
pub record IsOtherCount (given expected : ℕ) (e : ComposeError) : Type 0 where
  pub other : given ≢ expected
  pub told : e ≡ compose.ComponentCount (in_32_bits given) (in_32_bits expected)

-- each component is allowed, and together they have the expected number of scalars
pub record AreWhole (May : ℕ → Form → Type 0) (forms : List Form) (given expected : ℕ) : Type 0 where
  pub fit : AllFit May forms
  pub whole : given ≡ expected

-- a component is not allowed, or together they have another number of scalars
abbrev pub AreNotWhole : (May : ℕ → Form → Type 0) → List Form → (given expected : ℕ) → ComposeError → Type 0
AreNotWhole May forms given expected e = IsMisfit May forms e ⊎ IsOtherCount given expected e

-- ---- struct members

abbrev pub IsForm : (wanted : Form) → (place : ℕ) → Form → Type 0
IsForm wanted place f = f ≡ wanted

abbrev pub IsScalars : Scalar → (place : ℕ) → Form → Type 0
IsScalars scalar place f = IsOfScalar scalar f

-- anything is allowed past the last member
abbrev pub IsMember : List PlainType → List PlainMember → (place : ℕ) → Form → Type 0
IsMember types members place f = (m : PlainMember) → slice_get members place ≡ Some m → f ≡ form_of_type types m.ty
