-- The broken rules of `ImageSample`.
use Rattle.std.specs.Prelude.{◌≡◌, ◌≢◌, ℕ, List, Option, None, Bool, true, false, is_some, IfSome, IsSomeAnd}
use Rattle.ir_types.specs.judged.ExpressionPlain.{PlainExpression}
use Rattle.ir_kinds.specs.judged.Images.{is_depth, is_multisampled}
use Rattle.ir_kinds.specs.judged.Scalars.{signed, floating}
use Rattle.ir_kinds.specs.declared.images.ImageClass.{ImageClass}
use Rattle.ir_kinds.specs.declared.images.ImageClass.TheVariants as class
use Rattle.ir_kinds.specs.declared.images.ImageDimension.{ImageDimension}
use Rattle.ir_kinds.specs.declared.images.ImageDimension.TheVariants.{Cube}
use Rattle.ir_kinds.specs.declared.scalars.ScalarKind.{ScalarKind}
use Rattle.ir_kinds.specs.declared.scalars.SwizzleComponent.{SwizzleComponent}
use Rattle.typing_forms.specs.declared.form.Form.{Form}
use Rattle.typing_layout.specs.judged.Constness.{IsOfKind}
use Rattle.typing_layout.specs.declared.constness.ExpressionKind.TheVariants.{Const}
use Rattle.spec_statements.specs.judged.ImageSamples.{IsFloat32, IsFiltered}
use Rattle.spec_statements.specs.judged.Scene.{form_among}
use Rattle.spec_statements.specs.judged.Shapes.{coordinate_form, image_type_of, sampler_of}
use Rattle.spec_statements.specs.declared.shapes.ImageType.{ImageType}
use Rattle.spec_statements.specs.declared.shapes.Sampling.{Sampling}
use Rattle.check_image_causes.specs.ImageLevels.{BrokenDetail, BrokenEdge}
use Rattle.check_image_causes.specs.Numbers.{BrokenNumber}
use Rattle.check_image_causes.specs.declared.image_samples.SamplerCause.{SamplerCause}
use Rattle.check_image_causes.specs.declared.image_samples.SamplerCause.TheVariants as sampler
use Rattle.check_image_causes.specs.declared.image_samples.TexelsCause.{TexelsCause}
use Rattle.check_image_causes.specs.declared.image_samples.TexelsCause.TheVariants as texels
use Rattle.check_image_causes.specs.declared.image_samples.PlaceCause.{PlaceCause}
use Rattle.check_image_causes.specs.declared.image_samples.PlaceCause.TheVariants as place
use Rattle.check_image_causes.specs.declared.image_samples.SampleCause.{SampleCause}
use Rattle.check_image_causes.specs.declared.image_samples.SampleCause.TheVariants as sample

-- ---- the sampler, and the depth reference

-- the fields of a sample that the rule concerns
abbrev pub SamplerOK : (forms : List Form) → ImageClass → Sampling → Type 0
SamplerOK forms c by = IsSomeAnd (sampler_of (form_among forms by.sampler)) (λ comparison. comparison ≡ is_some by.depth_ref)
    × IfSome by.depth_ref (λ reference. IsFloat32 (form_among forms reference) × (is_depth c ≡ true))

abbrev pub BrokenCompare : (forms : List Form) → ImageClass → (depth_ref : Option ℕ) → SamplerCause → Type 0
BrokenCompare forms c depth_ref (sampler.NoSampler given) = ⊥
BrokenCompare forms c depth_ref (sampler.Comparison compares) = ⊥
BrokenCompare forms c depth_ref (sampler.Reference given) = IsSomeAnd depth_ref (λ e. (given ≡ form_among forms e) × ¬ IsFloat32 (form_among forms e))
BrokenCompare forms c depth_ref sampler.NoDepth = IsSomeAnd depth_ref (λ e. is_depth c ≡ false)

abbrev pub BrokenSampler : (forms : List Form) → ImageClass → Sampling → SamplerCause → Type 0
BrokenSampler forms c by (sampler.NoSampler given) = (given ≡ form_among forms by.sampler) × (sampler_of (form_among forms by.sampler) ≡ None)
BrokenSampler forms c by (sampler.Comparison compares) = IsSomeAnd (sampler_of (form_among forms by.sampler)) (λ comparison. comparison ≡ compares) × (compares ≢ is_some by.depth_ref)
BrokenSampler forms c by (sampler.Reference given) = BrokenCompare forms c by.depth_ref (sampler.Reference given)
BrokenSampler forms c by sampler.NoDepth = BrokenCompare forms c by.depth_ref sampler.NoDepth

-- ---- the sampled image

abbrev pub BrokenTexels : ImageClass → (gather : Option SwizzleComponent) → TexelsCause → Type 0
BrokenTexels c gather texels.Multisampled = is_multisampled c ≡ true
BrokenTexels c gather (texels.Unfiltered kind) = ((multi : Bool) × (c ≡ class.Sampled kind multi)) × ¬ IsFiltered c gather

-- ---- the coordinate

abbrev pub BrokenOffset : (expressions : List PlainExpression) → (forms : List Form) → ImageDimension → (offset : ℕ) → PlaceCause → Type 0
BrokenOffset expressions forms dim offset (place.Coordinate given wanted) = ⊥
BrokenOffset expressions forms dim offset (place.Layer cause) = ⊥
BrokenOffset expressions forms dim offset place.Varying = ¬ IsOfKind expressions offset Const
BrokenOffset expressions forms dim offset (place.Offset given wanted) = (given ≡ form_among forms offset) × (wanted ≡ coordinate_form dim (signed 4)) × (form_among forms offset ≢ wanted)
BrokenOffset expressions forms dim offset place.Cube = dim ≡ Cube

abbrev pub BrokenPlace : (expressions : List PlainExpression) → (forms : List Form) → ImageType → Sampling → PlaceCause → Type 0
BrokenPlace expressions forms image by (place.Coordinate given wanted) =
    (given ≡ form_among forms by.coordinate) × (wanted ≡ coordinate_form image.dim (floating 4)) × (form_among forms by.coordinate ≢ wanted)
BrokenPlace expressions forms image by (place.Layer cause) = BrokenNumber forms image.arrayed by.array_index cause
BrokenPlace expressions forms image by place.Varying = IsSomeAnd by.offset (λ e. BrokenOffset expressions forms image.dim e place.Varying)
BrokenPlace expressions forms image by (place.Offset given wanted) = IsSomeAnd by.offset (λ e. BrokenOffset expressions forms image.dim e (place.Offset given wanted))
BrokenPlace expressions forms image by place.Cube = IsSomeAnd by.offset (λ e. BrokenOffset expressions forms image.dim e place.Cube)

-- ---- samples

abbrev pub BrokenSampled : (expressions : List PlainExpression) → (forms : List Form) → ImageType → Sampling → SampleCause → Type 0
BrokenSampled expressions forms image by (sample.NoImage given) = ⊥
BrokenSampled expressions forms image by (sample.Sampler cause) = BrokenSampler forms image.class by cause
BrokenSampled expressions forms image by (sample.Texels cause) = BrokenTexels image.class by.gather cause
BrokenSampled expressions forms image by (sample.Place cause) = BrokenPlace expressions forms image by cause
BrokenSampled expressions forms image by (sample.Detail cause) = BrokenDetail forms image by cause
BrokenSampled expressions forms image by (sample.Edge cause) = BrokenEdge image by cause

-- the operand is not an image, or a rule of the sample is broken
abbrev pub BrokenSample : (expressions : List PlainExpression) → (forms : List Form) → (image : Form) → Sampling → SampleCause → Type 0
BrokenSample expressions forms image by (sample.NoImage given) = (given ≡ image) × (image_type_of image ≡ None)
BrokenSample expressions forms image by (sample.Sampler cause) = IsSomeAnd (image_type_of image) (λ i. BrokenSampled expressions forms i by (sample.Sampler cause))
BrokenSample expressions forms image by (sample.Texels cause) = IsSomeAnd (image_type_of image) (λ i. BrokenSampled expressions forms i by (sample.Texels cause))
BrokenSample expressions forms image by (sample.Place cause) = IsSomeAnd (image_type_of image) (λ i. BrokenSampled expressions forms i by (sample.Place cause))
BrokenSample expressions forms image by (sample.Detail cause) = IsSomeAnd (image_type_of image) (λ i. BrokenSampled expressions forms i by (sample.Detail cause))
BrokenSample expressions forms image by (sample.Edge cause) = IsSomeAnd (image_type_of image) (λ i. BrokenSampled expressions forms i by (sample.Edge cause))
