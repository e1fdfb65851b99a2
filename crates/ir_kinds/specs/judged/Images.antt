-- Storage formats and image classes.
use Rattle.std.specs.Prelude.{Bool, true, false, not}
use Rattle.ir_kinds.specs.declared.scalars.Scalar.{Scalar}
use Rattle.ir_kinds.specs.declared.images.StorageFormat.{StorageFormat}
use Rattle.ir_kinds.specs.declared.images.StorageFormat.TheVariants.{R8Unorm, R8Snorm, R8Uint, R8Sint, R16Uint, R16Sint, R16Float, Rg8Unorm, Rg8Snorm, Rg8Uint, Rg8Sint, R32Uint, R32Sint, R32Float, Rg16Uint, Rg16Sint, Rg16Float, Rgba8Unorm, Rgba8Snorm, Rgba8Uint, Rgba8Sint, Bgra8Unorm, Rgb10a2Uint, Rgb10a2Unorm, Rg11b10Ufloat, R64Uint, Rg32Uint, Rg32Sint, Rg32Float, Rgba16Uint, Rgba16Sint, Rgba16Float, Rgba32Uint, Rgba32Sint, Rgba32Float, R16Unorm, R16Snorm, Rg16Unorm, Rg16Snorm, Rgba16Unorm, Rgba16Snorm}
use Rattle.ir_kinds.specs.declared.images.ImageClass.{ImageClass}
use Rattle.ir_kinds.specs.declared.images.ImageClass.TheVariants.{Sampled, Depth, External, Storage}
use Rattle.ir_kinds.specs.judged.Scalars.{signed, unsigned, floating}

-- A storage format: the scalar type of a component in a shader, and whether it is a 16-bit normalised
-- format.
pub record FormatRow : Type 0 where
  pub scalar : Scalar
  pub norm_16 : Bool

abbrev pub texels_of : Scalar → FormatRow
texels_of s = record { scalar = s; norm_16 = false }

abbrev pub format_row : StorageFormat → FormatRow
format_row R8Unorm = texels_of (floating 4)
format_row R8Snorm = texels_of (floating 4)
format_row R8Uint = texels_of (unsigned 4)
format_row R8Sint = texels_of (signed 4)
format_row R16Uint = texels_of (unsigned 4)
format_row R16Sint = texels_of (signed 4)
format_row R16Float = texels_of (floating 4)
format_row Rg8Unorm = texels_of (floating 4)
format_row Rg8Snorm = texels_of (floating 4)
format_row Rg8Uint = texels_of (unsigned 4)
format_row Rg8Sint = texels_of (signed 4)
format_row R32Uint = texels_of (unsigned 4)
format_row R32Sint = texels_of (signed 4)
format_row R32Float = texels_of (floating 4)
format_row Rg16Uint = texels_of (unsigned 4)
format_row Rg16Sint = texels_of (signed 4)
format_row Rg16Float = texels_of (floating 4)
format_row Rgba8Unorm = texels_of (floating 4)
format_row Rgba8Snorm = texels_of (floating 4)
format_row Rgba8Uint = texels_of (unsigned 4)
format_row Rgba8Sint = texels_of (signed 4)
format_row Bgra8Unorm = texels_of (floating 4)
format_row Rgb10a2Uint = texels_of (unsigned 4)
format_row Rgb10a2Unorm = texels_of (floating 4)
format_row Rg11b10Ufloat = texels_of (floating 4)
format_row R64Uint = texels_of (unsigned 8)
format_row Rg32Uint = texels_of (unsigned 4)
format_row Rg32Sint = texels_of (signed 4)
format_row Rg32Float = texels_of (floating 4)
format_row Rgba16Uint = texels_of (unsigned 4)
format_row Rgba16Sint = texels_of (signed 4)
format_row Rgba16Float = texels_of (floating 4)
format_row Rgba32Uint = texels_of (unsigned 4)
format_row Rgba32Sint = texels_of (signed 4)
format_row Rgba32Float = texels_of (floating 4)
format_row R16Unorm = record (texels_of (floating 4)) { norm_16 = true }
format_row R16Snorm = record (texels_of (floating 4)) { norm_16 = true }
format_row Rg16Unorm = record (texels_of (floating 4)) { norm_16 = true }
format_row Rg16Snorm = record (texels_of (floating 4)) { norm_16 = true }
format_row Rgba16Unorm = record (texels_of (floating 4)) { norm_16 = true }
format_row Rgba16Snorm = record (texels_of (floating 4)) { norm_16 = true }

abbrev pub format_scalar : StorageFormat → Scalar
format_scalar format = (format_row format).scalar

abbrev pub is_norm_16 : StorageFormat → Bool
is_norm_16 format = (format_row format).norm_16

-- whether the image is multisampled
abbrev pub is_multisampled : ImageClass → Bool
is_multisampled c = elim c [ Sampled kind multi ↦ multi | Depth multi ↦ multi | External ↦ false | Storage format access ↦ false ]

-- whether the image has mip levels
abbrev pub is_mipmapped : ImageClass → Bool
is_mipmapped c = elim c [ Sampled kind multi ↦ not multi | Depth multi ↦ not multi | External ↦ false | Storage format access ↦ false ]

abbrev pub is_depth : ImageClass → Bool
is_depth c = elim c [ Sampled kind multi ↦ false | Depth multi ↦ true | External ↦ false | Storage format access ↦ false ]
