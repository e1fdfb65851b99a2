-- Image loads and image queries.
use Rattle.std.specs.Prelude.{◌≡◌, ℕ, List, Option, Some, None, true, IsSomeAnd}
use Rattle.ir_types.specs.declared.expressions.ImageQuery.{ImageQuery}
use Rattle.ir_types.specs.declared.expressions.ImageQuery.TheVariants.{Size, NumLevels, NumLayers, NumSamples}
use Rattle.ir_flags.specs.Sets.{Has}
use Rattle.ir_flags.specs.declared.memory.TheConstants.StorageAccess.{LOAD}
use Rattle.ir_kinds.specs.judged.Images.{is_multisampled, is_mipmapped}
use Rattle.ir_kinds.specs.declared.images.ImageClass.{ImageClass}
use Rattle.ir_kinds.specs.declared.images.ImageClass.TheVariants.{Sampled, Depth, External, Storage}
use Rattle.ir_kinds.specs.declared.images.ImageDimension.{ImageDimension}
use Rattle.ir_kinds.specs.declared.images.ImageDimension.TheVariants.{D1, D2, D3, Cube}
use Rattle.spec_expressions.specs.TypingForms.{Form}
use Rattle.spec_statements.specs.judged.Scene.{form_among}
use Rattle.spec_statements.specs.judged.Shapes.{shaped_of, IsInteger, IsIntegerScalar, ExactlyIf, coordinate_form, image_type_of}
use Rattle.spec_statements.specs.declared.shapes.ImageType.{ImageType}

-- ---- loads

-- an integer coordinate of the image's dimension; cube images have no loads
abbrev pub IsFlat : ImageDimension → Type 0
IsFlat dim = elim dim [ D1 ↦ Unit {0} | D2 ↦ Unit {0} | D3 ↦ Unit {0} | Cube ↦ ⊥ ]

abbrev pub IsTexelCoordinate : ImageDimension → (coordinate : Form) → Type 0
IsTexelCoordinate dim coordinate = IsFlat dim × IsSomeAnd (shaped_of coordinate) (λ x. IsInteger x.scalar.kind × (coordinate ≡ coordinate_form dim x.scalar))

-- storage images need the `LOAD` access
abbrev pub IsReadable : ImageClass → Type 0
IsReadable (Sampled kind multi) = Unit {0}
IsReadable (Depth multi) = Unit {0}
IsReadable External = Unit {0}
IsReadable (Storage format access) = Has access.0 LOAD.0

-- a texel, with an array index, a sample index and a level each exactly if the image has them
pub record IsTexelLoad (forms : List Form) (image : ImageType) (texel : ℕ) (array_index of_texel of_image : Option ℕ) : Type 0 where
  pub coordinate : IsTexelCoordinate image.dim (form_among forms texel)
  pub layer : ExactlyIf image.arrayed array_index (λ layer. IsIntegerScalar (form_among forms layer))
  pub sample : ExactlyIf (is_multisampled image.class) of_texel (λ sample. IsIntegerScalar (form_among forms sample))
  pub level : ExactlyIf (is_mipmapped image.class) of_image (λ level. IsIntegerScalar (form_among forms level))
  pub readable : IsReadable image.class

abbrev pub ImageLoadOK : (forms : List Form) → (image : Form) → (coordinate : ℕ) → (array_index sample level : Option ℕ) → Type 0
ImageLoadOK forms image coordinate array_index sample level =
    IsSomeAnd (image_type_of image) (λ image_type. IsTexelLoad forms image_type coordinate array_index sample level)

-- ---- queries

-- the size at a level, and the number of levels, if the image is mipmapped; the number of layers; the number of samples
abbrev pub IsAnswered : (forms : List Form) → ImageQuery → ImageType → Type 0
IsAnswered forms (Size None) image = Unit {0}
IsAnswered forms (Size (Some level)) image = (is_mipmapped image.class ≡ true) × IsIntegerScalar (form_among forms level)
IsAnswered forms NumLevels image = is_mipmapped image.class ≡ true
IsAnswered forms NumLayers image = image.arrayed ≡ true
IsAnswered forms NumSamples image = is_multisampled image.class ≡ true

abbrev pub ImageQueryOK : (forms : List Form) → (image : Form) → ImageQuery → Type 0
ImageQueryOK forms image query = IsSomeAnd (image_type_of image) (IsAnswered forms query)
