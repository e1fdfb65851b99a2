-- The types of image loads and image queries.
use Rattle.std.specs.Prelude.{ℕ, Result, Ok, Err}
use Rattle.ir_kinds.specs.declared.images.ImageClass.{ImageClass}
use Rattle.ir_kinds.specs.declared.images.ImageClass.TheVariants.{Sampled, Depth, External, Storage}
use Rattle.ir_kinds.specs.declared.images.ImageDimension.{ImageDimension}
use Rattle.ir_kinds.specs.declared.images.ImageDimension.TheVariants.{D1, D2, D3, Cube}
use Rattle.ir_kinds.specs.declared.scalars.VectorSize.TheVariants.{Bi, Tri}
use Rattle.ir_kinds.specs.judged.Images.{format_scalar}
use Rattle.ir_kinds.specs.judged.Scalars.{unsigned, floating}
use Rattle.typing_layout.specs.IrTypes.{ImageQuery, Size, NumLevels, NumLayers, NumSamples}
use Rattle.typing_layout.specs.TypingForms.{Form}
use Rattle.typing_layout.specs.TypingForms.form as form
use Rattle.spec_expressions.specs.judged.ImageSamples.{texel_scalar, texel}
use Rattle.spec_expressions.specs.declared.faults.TypingFault.{TypingFault}
use Rattle.spec_expressions.specs.declared.faults.TypingFault.TheVariants.{InvalidImage}

-- the type of a texel
abbrev pub loaded_texel : ImageClass → Form
loaded_texel (Sampled kind multi) = texel (texel_scalar kind)
loaded_texel (Depth multi) = form.Scalar (floating 4)
loaded_texel External = texel (floating 4)
loaded_texel (Storage format access) = texel (format_scalar format)

-- image is the image's expression
abbrev pub image_load_type : (image : ℕ) → (of : Form) → Result Form TypingFault
image_load_type image of = elim of [ form.Image dim arrayed class ↦ Ok (loaded_texel class) | _ ↦ Err (InvalidImage image) ]

-- ---- queries

-- the number of texels in each dimension
abbrev pub extent : ImageDimension → Form
extent D1 = form.Scalar (unsigned 4)
extent D2 = form.Vector Bi (unsigned 4)
extent D3 = form.Vector Tri (unsigned 4)
extent Cube = form.Vector Bi (unsigned 4)

abbrev pub size_type : (image : ℕ) → (of : Form) → Result Form TypingFault
size_type image of = elim of [ form.Image dim arrayed class ↦ Ok (extent dim) | _ ↦ Err (InvalidImage image) ]

-- the size by the dimension, and any other query an unsigned integer
abbrev pub image_query_type : (image : ℕ) → ImageQuery → (of : Form) → Result Form TypingFault
image_query_type image (Size level) of = size_type image of
image_query_type image NumLevels of = Ok (form.Scalar (unsigned 4))
image_query_type image NumLayers of = Ok (form.Scalar (unsigned 4))
image_query_type image NumSamples of = Ok (form.Scalar (unsigned 4))
