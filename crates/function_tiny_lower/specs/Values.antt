-- The value types.
use Rattle.std.specs.Prelude.{ℕ, ◌==◌, if◌then◌else◌, Option, Some, None}
use Rattle.ir_kinds.specs.judged.Scalars.{unsigned, floating, boolean}
use Rattle.ir_kinds.specs.declared.scalars.Scalar.{Scalar}
use Rattle.ir_kinds.specs.declared.scalars.ScalarKind.{ScalarKind}
use Rattle.ir_kinds.specs.declared.scalars.ScalarKind.TheVariants as kind
use Rattle.ir_types.specs.judged.Plain.{PlainInner, plain}
use Rattle.ir_types.specs.declared.types.TypeInner.TheVariants as inner
use Rattle.function_tiny_lower.specs.declared.value_type.ValueType.{ValueType}
use Rattle.function_tiny_lower.specs.declared.value_type.ValueType.TheVariants.{U32, Bool, F32}
use Rattle.typing_forms.specs.declared.form.Form.{Form}
use Rattle.typing_forms.specs.declared.form.Form.TheVariants as form
use Rattle.typing_forms.specs.declared.resolution.TypeResolution.{TypeResolution}
use Rattle.typing_forms.specs.declared.resolution.TypeResolution.TheVariants as resolution

abbrev pub scalar_of : ValueType → Scalar
scalar_of U32 = unsigned 4
scalar_of Bool = boolean
scalar_of F32 = floating 4

abbrev pub type_by : ScalarKind → (width : ℕ) → Option ValueType
type_by kind.Uint width = if width == 4 then Some U32 else None
type_by kind.Bool width = if width == 1 then Some Bool else None
type_by kind.Float width = if width == 4 then Some F32 else None
type_by kind.Sint width = None
type_by kind.AbstractInt width = None
type_by kind.AbstractFloat width = None

-- the value type of a scalar, if it is one of the three
abbrev pub type_of_scalar : Scalar → Option ValueType
type_of_scalar s = type_by s.kind s.width

-- the value type of an inner type
abbrev pub type_of_inner : PlainInner → Option ValueType
type_of_inner (plain (inner.Scalar s)) = type_of_scalar s
type_of_inner _ = None

-- the value type of a form
abbrev pub type_of_form : Form → Option ValueType
type_of_form (form.Scalar s) = type_of_scalar s
type_of_form _ = None

-- ---- type resolutions

abbrev pub resolution_of : ValueType → TypeResolution
resolution_of t = resolution.Value (inner.Scalar (scalar_of t))

abbrev pub form_of : ValueType → Form
form_of t = form.Scalar (scalar_of t)
