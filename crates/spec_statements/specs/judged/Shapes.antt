-- Views of types for the rules of expressions: scalars and shapes, images, and pointer base types.
use Rattle.std.specs.Prelude.{ℕ, List, Option, Some, None, Bool, true, false, IsSomeAnd}
use Rattle.ir_kinds.specs.declared.images.ImageDimension.{ImageDimension}
use Rattle.ir_kinds.specs.declared.images.ImageDimension.TheVariants.{D1, D2, D3, Cube}
use Rattle.ir_kinds.specs.declared.scalars.Scalar.{Scalar}
use Rattle.ir_kinds.specs.declared.scalars.ScalarKind.{ScalarKind}
use Rattle.ir_kinds.specs.declared.scalars.ScalarKind.TheVariants as kind
use Rattle.ir_kinds.specs.declared.scalars.VectorSize.TheVariants.{Bi, Tri}
use Rattle.ir_types.specs.judged.Plain.{PlainInner, PlainType}
use Rattle.spec_expressions.specs.TypingForms.{Form, inner_at}
use Rattle.spec_expressions.specs.TypingForms.form as form
use Rattle.spec_statements.specs.declared.shapes.ImageType.{ImageType}
use Rattle.spec_statements.specs.declared.shapes.Shape.{Shape}
use Rattle.spec_statements.specs.declared.shapes.Shape.TheVariants as shape
use Rattle.spec_statements.specs.declared.shapes.Shaped.{Shaped}

-- ---- scalar kinds

abbrev pub AnyKind : ScalarKind → Type 0
AnyKind k = Unit {0}

abbrev pub IsInteger : ScalarKind → Type 0
IsInteger k = elim k [ kind.Sint ↦ Unit {0} | kind.Uint ↦ Unit {0} | _ ↦ ⊥ ]

abbrev pub IsFloating : ScalarKind → Type 0
IsFloating k = elim k [ kind.Float ↦ Unit {0} | _ ↦ ⊥ ]

abbrev pub IsBool : ScalarKind → Type 0
IsBool k = elim k [ kind.Bool ↦ Unit {0} | _ ↦ ⊥ ]

-- all kinds but bools are numeric
abbrev pub IsNumeric : ScalarKind → Type 0
IsNumeric kind.Sint = Unit {0}
IsNumeric kind.Uint = Unit {0}
IsNumeric kind.Float = Unit {0}
IsNumeric kind.Bool = ⊥
IsNumeric kind.AbstractInt = Unit {0}
IsNumeric kind.AbstractFloat = Unit {0}

-- ---- shapes

abbrev pub IsScalarShape : Shape → Type 0
IsScalarShape s = elim s [ shape.Scalar ↦ Unit {0} | _ ↦ ⊥ ]

abbrev pub IsVectorShape : Shape → Type 0
IsVectorShape s = elim s [ shape.Vector n ↦ Unit {0} | _ ↦ ⊥ ]

-- a scalar or a vector
abbrev pub IsScalarOrVector : Shape → Type 0
IsScalarOrVector s = elim s [ shape.Scalar ↦ Unit {0} | shape.Vector n ↦ Unit {0} | _ ↦ ⊥ ]

-- ---- types with scalars

-- a scalar, a vector, a matrix or a cooperative matrix
abbrev pub shaped_of : Form → Option Shaped
shaped_of (form.Scalar s) = Some (record { shape = shape.Scalar; scalar = s })
shaped_of (form.Vector n s) = Some (record { shape = shape.Vector n; scalar = s })
shaped_of (form.Matrix columns rows s) = Some (record { shape = shape.Matrix columns rows; scalar = s })
shaped_of (form.CooperativeMatrix columns rows s role) = Some (record { shape = shape.CooperativeMatrix columns rows role; scalar = s })
shaped_of _ = None

abbrev pub form_of_shape : Shape → Scalar → Form
form_of_shape shape.Scalar s = form.Scalar s
form_of_shape (shape.Vector n) s = form.Vector n s
form_of_shape (shape.Matrix columns rows) s = form.Matrix columns rows s
form_of_shape (shape.CooperativeMatrix columns rows role) s = form.CooperativeMatrix columns rows s role

-- scalars of such a kind, in such a shape
abbrev pub IsMadeOf : (Shape → Type 0) → (ScalarKind → Type 0) → Form → Type 0
IsMadeOf In Of t = IsSomeAnd (shaped_of t) (λ x. In x.shape × Of x.scalar.kind)

abbrev pub AnyShape : Shape → Type 0
AnyShape x = Unit {0}

abbrev pub IsIntegerScalar : Form → Type 0
IsIntegerScalar = IsMadeOf IsScalarShape IsInteger

-- ---- images, and pointer base types

abbrev pub image_type_of : Form → Option ImageType
image_type_of t = elim t [ form.Image dim arrayed class ↦ Some (record { dim = dim; arrayed = arrayed; class = class }) | _ ↦ None ]

-- whether it is a comparison sampler
abbrev pub sampler_of : Form → Option Bool
sampler_of t = elim t [ form.Sampler comparison ↦ Some comparison | _ ↦ None ]

abbrev pub pointed_in : List PlainType → Form → Option PlainInner
pointed_in types t = elim t [ form.Pointer base space ↦ inner_at types base | _ ↦ None ]

-- ---- image coordinates

-- a coordinate of this many dimensions: a scalar or vector of this scalar type
abbrev pub coordinate_form : ImageDimension → Scalar → Form
coordinate_form D1 s = form.Scalar s
coordinate_form D2 s = form.Vector Bi s
coordinate_form D3 s = form.Vector Tri s
coordinate_form Cube s = form.Vector Tri s

-- an option that is present exactly if wanted, and then satisfies P
abbrev pub ExactlyIf : (wanted : Bool) → Option ℕ → (ℕ → Type 0) → Type 0
ExactlyIf true (Some x) P = P x
ExactlyIf true None P = ⊥
ExactlyIf false (Some x) P = ⊥
ExactlyIf false None P = Unit {0}
