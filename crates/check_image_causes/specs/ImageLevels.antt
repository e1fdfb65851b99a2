-- The broken rules of the level of detail, of gather and of clamping in `ImageSample`.
use Rattle.std.specs.Prelude.{◌≡◌, ◌≢◌, ◌⊎◌, ℕ, List, Bool, true, false, IsSome, IsSomeAnd}
use Rattle.ir_types.specs.declared.expressions.SampleLevel.{SampleLevel}
use Rattle.ir_types.specs.declared.expressions.SampleLevel.TheVariants as level
use Rattle.ir_kinds.specs.judged.Images.{is_depth}
use Rattle.ir_kinds.specs.declared.images.ImageClass.{ImageClass}
use Rattle.ir_kinds.specs.declared.images.ImageClass.TheVariants.{External}
use Rattle.ir_kinds.specs.declared.scalars.SwizzleComponent.{SwizzleComponent}
use Rattle.ir_kinds.specs.declared.scalars.SwizzleComponent.TheVariants.{X}
use Rattle.typing_forms.specs.declared.form.Form.{Form}
use Rattle.spec_statements.specs.judged.ImageSamples.{IsFloat32, HasNeighbours, IsClamped}
use Rattle.spec_statements.specs.judged.Scene.{form_among}
use Rattle.spec_statements.specs.judged.Shapes.{IsIntegerScalar}
use Rattle.spec_statements.specs.declared.shapes.ImageType.{ImageType}
use Rattle.spec_statements.specs.declared.shapes.Sampling.{Sampling}
use Rattle.check_image_causes.specs.declared.image_levels.DetailCause.{DetailCause}
use Rattle.check_image_causes.specs.declared.image_levels.DetailCause.TheVariants as detail
use Rattle.check_image_causes.specs.declared.image_levels.EdgeCause.{EdgeCause}
use Rattle.check_image_causes.specs.declared.image_levels.EdgeCause.TheVariants as edge

-- ---- gather, and the level

abbrev pub BrokenGather : ImageType → SampleLevel → SwizzleComponent → DetailCause → Type 0
BrokenGather image l letter (detail.Neighbours dim) = (dim ≡ image.dim) × ¬ HasNeighbours image.dim
BrokenGather image l letter detail.GatherLevel = l ≢ level.Zero
BrokenGather image l letter (detail.GatherDepth given) = (given ≡ letter) × (is_depth image.class ≡ true) × (letter ≢ X)
BrokenGather image l letter (detail.Exact given) = ⊥
BrokenGather image l letter (detail.Bias given) = ⊥
BrokenGather image l letter (detail.Gradient given wanted) = ⊥

-- an expression of this type is not a valid level
abbrev pub IsBadExact : (forms : List Form) → ImageClass → SampleLevel → Form → Type 0
IsBadExact forms class l given = elim l [
  | level.Exact e ↦ (given ≡ form_among forms e) × ¬ IsFloat32 (form_among forms e) × ¬ ((is_depth class ≡ true) × IsIntegerScalar (form_among forms e))
  | _ ↦ ⊥
]

abbrev pub IsBadBias : (forms : List Form) → SampleLevel → Form → Type 0
IsBadBias forms l given = elim l [ level.Bias e ↦ (given ≡ form_among forms e) × ¬ IsFloat32 (form_among forms e) | _ ↦ ⊥ ]

abbrev pub IsBadGradient : (forms : List Form) → SampleLevel → Form → Type 0
IsBadGradient forms l given = elim l [ level.Gradient x y ↦ (given ≡ form_among forms x) ⊎ (given ≡ form_among forms y) | _ ↦ ⊥ ]

abbrev pub BrokenLevel : (forms : List Form) → ImageClass → (coordinate : Form) → SampleLevel → DetailCause → Type 0
BrokenLevel forms class coordinate l (detail.Neighbours dim) = ⊥
BrokenLevel forms class coordinate l detail.GatherLevel = ⊥
BrokenLevel forms class coordinate l (detail.GatherDepth given) = ⊥
BrokenLevel forms class coordinate l (detail.Exact given) = IsBadExact forms class l given
BrokenLevel forms class coordinate l (detail.Bias given) = IsBadBias forms l given
BrokenLevel forms class coordinate l (detail.Gradient given wanted) = (wanted ≡ coordinate) × (given ≢ coordinate) × IsBadGradient forms l given

abbrev pub BrokenDetail : (forms : List Form) → ImageType → Sampling → DetailCause → Type 0
BrokenDetail forms image by cause = IsSomeAnd by.gather (λ letter. BrokenGather image by.level letter cause) ⊎ BrokenLevel forms image.class (form_among forms by.coordinate) by.level cause

-- ---- clamping, and external images

abbrev pub BrokenClamp : ImageType → (clamp_to_edge : Bool) → EdgeCause → Type 0
BrokenClamp image clamp edge.Clamped = (clamp ≡ true) × (image.class ≢ External) × ¬ IsClamped image
BrokenClamp image clamp edge.Unclamped = (clamp ≡ false) × (image.class ≡ External)
BrokenClamp image clamp edge.Level = ⊥
BrokenClamp image clamp edge.Gathered = ⊥
BrokenClamp image clamp edge.Offset = ⊥

abbrev pub BrokenOutside : ImageClass → Sampling → EdgeCause → Type 0
BrokenOutside class by edge.Clamped = ⊥
BrokenOutside class by edge.Unclamped = ⊥
BrokenOutside class by edge.Level = (class ≡ External) × (by.level ≢ level.Zero)
BrokenOutside class by edge.Gathered = (class ≡ External) × IsSome by.gather
BrokenOutside class by edge.Offset = (class ≡ External) × IsSome by.offset

abbrev pub BrokenEdge : ImageType → Sampling → EdgeCause → Type 0
BrokenEdge image by cause = BrokenClamp image by.clamp_to_edge cause ⊎ BrokenOutside image.class by cause
