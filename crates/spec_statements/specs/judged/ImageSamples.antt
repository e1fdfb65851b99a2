-- Image samples and gathers.
use Rattle.std.specs.Prelude.{◌≡◌, ◌≢◌, ◌⊎◌, ℕ, List, Option, Some, None, Bool, true, false, is_some, IfSome, IsSomeAnd}
use Rattle.ir_types.specs.judged.ExpressionPlain.{PlainExpression}
use Rattle.ir_types.specs.declared.expressions.SampleLevel.{SampleLevel}
use Rattle.ir_types.specs.declared.expressions.SampleLevel.TheVariants.{Auto, Zero, Exact, Bias, Gradient}
use Rattle.ir_kinds.specs.judged.Images.{is_multisampled, is_depth}
use Rattle.ir_kinds.specs.judged.Scalars.{signed, floating}
use Rattle.ir_kinds.specs.declared.images.ImageClass.{ImageClass}
use Rattle.ir_kinds.specs.declared.images.ImageClass.TheVariants.{Sampled, Depth, External, Storage}
use Rattle.ir_kinds.specs.declared.images.ImageDimension.{ImageDimension}
use Rattle.ir_kinds.specs.declared.images.ImageDimension.TheVariants.{D2, Cube}
use Rattle.ir_kinds.specs.declared.scalars.ScalarKind.TheVariants.{Float}
use Rattle.ir_kinds.specs.declared.scalars.SwizzleComponent.{SwizzleComponent}
use Rattle.ir_kinds.specs.declared.scalars.SwizzleComponent.TheVariants.{X}
use Rattle.spec_expressions.specs.TypingForms.{Form}
use Rattle.spec_expressions.specs.TypingForms.form as form
use Rattle.typing_layout.specs.judged.Constness.{IsOfKind}
use Rattle.typing_layout.specs.declared.constness.ExpressionKind.TheVariants.{Const}
use Rattle.spec_statements.specs.judged.Scene.{form_among}
use Rattle.spec_statements.specs.judged.Shapes.{IsIntegerScalar, ExactlyIf, coordinate_form, image_type_of, sampler_of}
use Rattle.spec_statements.specs.declared.shapes.ImageType.{ImageType}
use Rattle.spec_statements.specs.declared.shapes.Sampling.{Sampling}

-- a 32-bit float
abbrev pub IsFloat32 : Form → Type 0
IsFloat32 t = t ≡ form.Scalar (floating 4)

-- texels other than floats can only be gathered
abbrev pub IsFiltered : ImageClass → (gather : Option SwizzleComponent) → Type 0
IsFiltered (Sampled kind multi) (Some letter) = Unit {0}
IsFiltered (Sampled kind multi) None = kind ≡ Float
IsFiltered (Depth multi) gather = Unit {0}
IsFiltered External gather = Unit {0}
IsFiltered (Storage format access) gather = Unit {0}

-- two-dimensional and cube images
abbrev pub HasNeighbours : ImageDimension → Type 0
HasNeighbours dim = elim dim [ D2 ↦ Unit {0} | Cube ↦ Unit {0} | _ ↦ ⊥ ]

-- a gather is at level zero; of depth images the component is `X`
pub record IsGathered (image : ImageType) (level : SampleLevel) (letter : SwizzleComponent) : Type 0 where
  pub neighbours : HasNeighbours image.dim
  pub finest : level ≡ Zero
  pub component : is_depth image.class ≡ true → letter ≡ X

-- an offset is const, with an integer for each dimension; cube images have none
pub record IsOffset (expressions : List PlainExpression) (forms : List Form) (dim : ImageDimension) (offset : ℕ) : Type 0 where
  pub known : IsOfKind expressions offset Const
  pub texels : form_among forms offset ≡ coordinate_form dim (signed 4)
  pub flat : dim ≢ Cube

-- a level is a 32-bit float, or for depth images an integer; gradients have the type of the coordinate
abbrev pub IsLevel : (forms : List Form) → ImageClass → (coordinate : Form) → SampleLevel → Type 0
IsLevel forms class coordinate Auto = Unit {0}
IsLevel forms class coordinate Zero = Unit {0}
IsLevel forms class coordinate (Exact level) = IsFloat32 (form_among forms level) ⊎ ((is_depth class ≡ true) × IsIntegerScalar (form_among forms level))
IsLevel forms class coordinate (Bias bias) = IsFloat32 (form_among forms bias)
IsLevel forms class coordinate (Gradient right below) = (form_among forms right ≡ coordinate) × (form_among forms below ≡ coordinate)

-- a two-dimensional float image that is not arrayed
abbrev pub IsClamped : ImageType → Type 0
IsClamped image = (image.dim ≡ D2) × (image.arrayed ≡ false) × ((multi : Bool) × (image.class ≡ Sampled Float multi))

-- external images are always clamped, others only if they allow it
abbrev pub ClampOK : ImageType → (clamp_to_edge : Bool) → Type 0
ClampOK image clamp_to_edge = elim clamp_to_edge [ true ↦ (image.class ≡ External) ⊎ IsClamped image | false ↦ image.class ≢ External ]

-- external images are sampled at level zero, without a gather or an offset
abbrev pub ExternalOK : ImageClass → (gather : Option SwizzleComponent) → (offset : Option ℕ) → SampleLevel → Type 0
ExternalOK class gather offset level = class ≡ External → (level ≡ Zero) × (gather ≡ None) × (offset ≡ None)

pub record IsSampled (expressions : List PlainExpression) (forms : List Form) (image : ImageType) (by : Sampling) : Type 0 where
  -- a comparison sampler exactly if there is a depth reference: a float, with a depth image
  pub sampler : IsSomeAnd (sampler_of (form_among forms by.sampler)) (λ comparison. comparison ≡ is_some by.depth_ref)
  pub compared : IfSome by.depth_ref (λ reference. IsFloat32 (form_among forms reference) × (is_depth image.class ≡ true))
  -- the image is not multisampled
  pub single : is_multisampled image.class ≡ false
  pub filtered : IsFiltered image.class by.gather
  -- a coordinate of the image's dimension, and an array index exactly if it is arrayed
  pub coordinate : form_among forms by.coordinate ≡ coordinate_form image.dim (floating 4)
  pub layer : ExactlyIf image.arrayed by.array_index (λ layer. IsIntegerScalar (form_among forms layer))
  pub offset : IfSome by.offset (IsOffset expressions forms image.dim)
  pub gathered : IfSome by.gather (IsGathered image by.level)
  pub level : IsLevel forms image.class (form_among forms by.coordinate) by.level
  pub clamped : ClampOK image by.clamp_to_edge
  pub outside : ExternalOK image.class by.gather by.offset by.level

abbrev pub ImageSampleOK : (expressions : List PlainExpression) → (forms : List Form) → (image : Form) → Sampling → Type 0
ImageSampleOK expressions forms image by = IsSomeAnd (image_type_of image) (λ image_type. IsSampled expressions forms image_type by)
