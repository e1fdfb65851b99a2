-- The broken rules of `ImageLoad` and `ImageQuery`.
use Rattle.std.specs.Prelude.{◌≡◌, ◌≢◌, ℕ, List, None, false, IsSomeAnd}
use Rattle.ir_types.specs.declared.expressions.ImageQuery.{ImageQuery}
use Rattle.ir_types.specs.declared.expressions.ImageQuery.TheVariants as query
use Rattle.ir_kinds.specs.judged.Images.{is_multisampled, is_mipmapped}
use Rattle.ir_kinds.specs.declared.images.ImageDimension.{ImageDimension}
use Rattle.typing_forms.specs.declared.form.Form.{Form}
use Rattle.spec_statements.specs.judged.ImageLoads.{IsFlat, IsReadable}
use Rattle.spec_statements.specs.judged.Scene.{form_among}
use Rattle.spec_statements.specs.judged.Shapes.{shaped_of, image_type_of, coordinate_form, IsMadeOf, AnyShape, IsInteger, IsIntegerScalar}
use Rattle.spec_statements.specs.declared.shapes.ImageType.{ImageType}
use Rattle.check_image_causes.specs.Numbers.{BrokenNumber}
use Rattle.check_image_causes.specs.declared.image_loads.TexelLoad.{TexelLoad}
use Rattle.check_image_causes.specs.declared.image_loads.TexelCause.{TexelCause}
use Rattle.check_image_causes.specs.declared.image_loads.TexelCause.TheVariants as texel
use Rattle.check_image_causes.specs.declared.image_loads.LoadCause.{LoadCause}
use Rattle.check_image_causes.specs.declared.image_loads.LoadCause.TheVariants as load
use Rattle.check_image_causes.specs.declared.image_loads.QueryCause.{QueryCause}
use Rattle.check_image_causes.specs.declared.image_loads.QueryCause.TheVariants as asked

-- ---- loads

abbrev pub BrokenTexel : ImageDimension → (coordinate : Form) → TexelCause → Type 0
BrokenTexel dim coordinate texel.Cube = ¬ IsFlat dim
BrokenTexel dim coordinate (texel.NoInteger given) = (given ≡ coordinate) × ¬ IsMadeOf AnyShape IsInteger coordinate
BrokenTexel dim coordinate (texel.Coordinate given wanted) = (given ≡ coordinate) × IsSomeAnd (shaped_of coordinate) (λ x. wanted ≡ coordinate_form dim x.scalar) × (coordinate ≢ wanted)

abbrev pub BrokenTexelLoad : (forms : List Form) → ImageType → TexelLoad → LoadCause → Type 0
BrokenTexelLoad forms image by (load.NoImage given) = ⊥
BrokenTexelLoad forms image by (load.Texel cause) = BrokenTexel image.dim (form_among forms by.coordinate) cause
BrokenTexelLoad forms image by (load.Layer cause) = BrokenNumber forms image.arrayed by.array_index cause
BrokenTexelLoad forms image by (load.Sample cause) = BrokenNumber forms (is_multisampled image.class) by.sample cause
BrokenTexelLoad forms image by (load.Level cause) = BrokenNumber forms (is_mipmapped image.class) by.level cause
BrokenTexelLoad forms image by load.NoLoad = ¬ IsReadable image.class

-- the operand is not an image, or a rule of the load is broken
abbrev pub BrokenLoad : (forms : List Form) → (image : Form) → TexelLoad → LoadCause → Type 0
BrokenLoad forms image by (load.NoImage given) = (given ≡ image) × (image_type_of image ≡ None)
BrokenLoad forms image by (load.Texel cause) = IsSomeAnd (image_type_of image) (λ i. BrokenTexelLoad forms i by (load.Texel cause))
BrokenLoad forms image by (load.Layer cause) = IsSomeAnd (image_type_of image) (λ i. BrokenTexelLoad forms i by (load.Layer cause))
BrokenLoad forms image by (load.Sample cause) = IsSomeAnd (image_type_of image) (λ i. BrokenTexelLoad forms i by (load.Sample cause))
BrokenLoad forms image by (load.Level cause) = IsSomeAnd (image_type_of image) (λ i. BrokenTexelLoad forms i by (load.Level cause))
BrokenLoad forms image by load.NoLoad = IsSomeAnd (image_type_of image) (λ i. BrokenTexelLoad forms i by load.NoLoad)

-- ---- queries

-- the query requires an image with levels
abbrev pub AsksLevels : ImageQuery → Type 0
AsksLevels (query.Size level) = IsSomeAnd level (λ e. Unit {0})
AsksLevels query.NumLevels = Unit {0}
AsksLevels query.NumLayers = ⊥
AsksLevels query.NumSamples = ⊥

-- the level of a size query is not an integer
abbrev pub AsksBadLevel : (forms : List Form) → ImageQuery → Form → Type 0
AsksBadLevel forms (query.Size level) given = IsSomeAnd level (λ e. (given ≡ form_among forms e) × ¬ IsIntegerScalar (form_among forms e))
AsksBadLevel forms query.NumLevels given = ⊥
AsksBadLevel forms query.NumLayers given = ⊥
AsksBadLevel forms query.NumSamples given = ⊥

abbrev pub BrokenAnswer : (forms : List Form) → ImageQuery → ImageType → QueryCause → Type 0
BrokenAnswer forms q image (asked.NoImage given) = ⊥
BrokenAnswer forms q image asked.NoLevels = AsksLevels q × (is_mipmapped image.class ≡ false)
BrokenAnswer forms q image (asked.Level given) = AsksBadLevel forms q given
BrokenAnswer forms q image asked.NoLayers = (q ≡ query.NumLayers) × (image.arrayed ≡ false)
BrokenAnswer forms q image asked.NoSamples = (q ≡ query.NumSamples) × (is_multisampled image.class ≡ false)

abbrev pub BrokenQuery : (forms : List Form) → (image : Form) → ImageQuery → QueryCause → Type 0
BrokenQuery forms image q (asked.NoImage given) = (given ≡ image) × (image_type_of image ≡ None)
BrokenQuery forms image q asked.NoLevels = IsSomeAnd (image_type_of image) (λ i. BrokenAnswer forms q i asked.NoLevels)
BrokenQuery forms image q (asked.Level given) = IsSomeAnd (image_type_of image) (λ i. BrokenAnswer forms q i (asked.Level given))
BrokenQuery forms image q asked.NoLayers = IsSomeAnd (image_type_of image) (λ i. BrokenAnswer forms q i asked.NoLayers)
BrokenQuery forms image q asked.NoSamples = IsSomeAnd (image_type_of image) (λ i. BrokenAnswer forms q i asked.NoSamples)
