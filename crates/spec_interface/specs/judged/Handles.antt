-- Types in the handle space, alone and in binding arrays: images, samplers and acceleration structures.
use Rattle.std.specs.Prelude.{Bool, true, false, Option, Some, None, if◌then◌else◌}
use Rattle.ir_flags.specs.declared.settings.Capabilities.{Capabilities}
use Rattle.ir_flags.specs.declared.settings.TheConstants.Capabilities.{TEXTURE_AND_SAMPLER_BINDING_ARRAY, STORAGE_TEXTURE_BINDING_ARRAY, ACCELERATION_STRUCTURE_BINDING_ARRAY, STORAGE_TEXTURE_16BIT_NORM_FORMATS}
use Rattle.ir_kinds.specs.declared.images.ImageClass.{ImageClass}
use Rattle.ir_kinds.specs.declared.images.ImageClass.TheVariants as class
use Rattle.ir_kinds.specs.judged.Images.{is_norm_16}
use Rattle.ir_types.specs.judged.Plain.{PlainInner, plain}
use Rattle.ir_types.specs.declared.types.TypeInner.TheVariants as inner

-- it is an image, a sampler or an acceleration structure
abbrev pub is_handle : Option PlainInner → Bool
is_handle (Some (plain (inner.Image dim arrayed class))) = true
is_handle (Some (plain (inner.Sampler comparison))) = true
is_handle (Some (plain (inner.AccelerationStructure vertex_return))) = true
is_handle (Some (plain (inner.RayQuery vertex_return))) = true
is_handle _ = false

-- the capability required for an image of a class
abbrev class_capability : ImageClass → Option Capabilities
class_capability (class.Sampled kind multi) = None
class_capability (class.Depth multi) = None
class_capability (class.Storage format access) = if is_norm_16 format then Some STORAGE_TEXTURE_16BIT_NORM_FORMATS else None
class_capability class.External = None

-- the capability required for a type in the handle space, if any
abbrev pub handle_capability : Option PlainInner → Option Capabilities
handle_capability o = elim o [ Some (plain (inner.Image dim arrayed class)) ↦ class_capability class | _ ↦ None ]

-- ---- in binding arrays

-- the capability required for binding arrays of images of a class; external images have no binding arrays
abbrev pub class_array_capability : ImageClass → Option Capabilities
class_array_capability (class.Sampled kind multi) = Some TEXTURE_AND_SAMPLER_BINDING_ARRAY
class_array_capability (class.Depth multi) = Some TEXTURE_AND_SAMPLER_BINDING_ARRAY
class_array_capability (class.Storage format access) = Some STORAGE_TEXTURE_BINDING_ARRAY
class_array_capability class.External = None

-- the capability required for binding arrays of this type in the handle space; other types have no binding arrays
abbrev pub handle_array_capability : Option PlainInner → Option Capabilities
handle_array_capability (Some (plain (inner.Image dim arrayed class))) = class_array_capability class
handle_array_capability (Some (plain (inner.Sampler comparison))) = Some TEXTURE_AND_SAMPLER_BINDING_ARRAY
handle_array_capability (Some (plain (inner.AccelerationStructure vertex_return))) = Some ACCELERATION_STRUCTURE_BINDING_ARRAY
handle_array_capability _ = None
