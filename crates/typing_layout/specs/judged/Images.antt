-- Which images and types of ray tracing are valid under given capabilities.
use Rattle.std.specs.Prelude.{◌≡◌, ◌⊎◌, Bool, true, false}
use Rattle.ir_flags.specs.Sets.{Has}
use Rattle.ir_flags.specs.declared.settings.Capabilities.{Capabilities}
use Rattle.ir_flags.specs.declared.settings.TheConstants.Capabilities.{CUBE_ARRAY_TEXTURES, TEXTURE_EXTERNAL, RAY_QUERY, RAY_TRACING_PIPELINE, RAY_HIT_VERTEX_POSITION}
use Rattle.ir_kinds.specs.judged.Images.{is_depth}
use Rattle.ir_kinds.specs.declared.images.ImageClass.{ImageClass}
use Rattle.ir_kinds.specs.declared.images.ImageClass.TheVariants.{External}
use Rattle.ir_kinds.specs.declared.images.ImageDimension.{ImageDimension}
use Rattle.ir_kinds.specs.declared.images.ImageDimension.TheVariants.{D2, D3, Cube}

-- cube arrays require a capability; 3D images are not arrayed and have no depth class; external images require a
-- capability, and are two-dimensional and not arrayed
pub record ImageOK (capabilities : Capabilities) (dim : ImageDimension) (arrayed : Bool) (class : ImageClass) : Type 0 where
  pub cube : dim ≡ Cube → arrayed ≡ true → Has capabilities.0 CUBE_ARRAY_TEXTURES.0
  pub volume : dim ≡ D3 → (arrayed ≡ false) × (is_depth class ≡ false)
  pub external : class ≡ External → Has capabilities.0 TEXTURE_EXTERNAL.0 × (dim ≡ D2) × (arrayed ≡ false)

-- types with `vertex_return` require a capability
abbrev pub VertexReturnOK : Capabilities → (vertex_return : Bool) → Type 0
VertexReturnOK capabilities vertex_return = vertex_return ≡ true → Has capabilities.0 RAY_HIT_VERTEX_POSITION.0

abbrev pub AccelerationStructureOK : Capabilities → (vertex_return : Bool) → Type 0
AccelerationStructureOK capabilities vertex_return = (Has capabilities.0 RAY_QUERY.0 ⊎ Has capabilities.0 RAY_TRACING_PIPELINE.0) × VertexReturnOK capabilities vertex_return

abbrev pub RayQueryTypeOK : Capabilities → (vertex_return : Bool) → Type 0
RayQueryTypeOK capabilities vertex_return = Has capabilities.0 RAY_QUERY.0 × VertexReturnOK capabilities vertex_return
