-- The rules of one value at a location.
use Rattle.std.specs.Prelude.{◌≡◌, ◌≢◌, ◌⊎◌, ◌==◌, ℕ, Bool, true, false, not, List, Option, Some, None, IsSome, IsSomeAnd, IsTrue, if◌then◌else◌, option_and_then}
use Rattle.ir_flags.specs.Sets.{Has}
use Rattle.ir_flags.specs.declared.settings.TheConstants.Capabilities.{MESH_SHADER, MULTISAMPLED_SHADING, PER_VERTEX}
use Rattle.ir_kinds.specs.declared.bindings.Interpolation.{Interpolation}
use Rattle.ir_kinds.specs.declared.bindings.Interpolation.TheVariants.{Perspective, Linear, Flat, PerVertex}
use Rattle.ir_kinds.specs.declared.bindings.Sampling.{Sampling}
use Rattle.ir_kinds.specs.declared.bindings.Sampling.TheVariants.{Center, Centroid, Sample, First, Either}
use Rattle.ir_kinds.specs.declared.scalars.ScalarKind.{ScalarKind}
use Rattle.ir_kinds.specs.declared.scalars.ScalarKind.TheVariants as kind
use Rattle.ir_kinds.specs.declared.stages.ShaderStage.{ShaderStage}
use Rattle.ir_kinds.specs.declared.stages.ShaderStage.TheVariants.{Vertex, Fragment, Mesh}
use Rattle.ir_types.specs.judged.Plain.{PlainType}
use Rattle.ir_types.specs.declared.types.ArraySize.{ArraySize}
use Rattle.ir_types.specs.declared.types.ArraySize.TheVariants as size
use Rattle.typing_layout.specs.judged.Flags.{HasFlag, IoShareable}
use Rattle.typing_layout.specs.judged.View.{type_tree}
use Rattle.spec_interface.specs.judged.BuiltIns.{array_of_form}
use Rattle.spec_interface.specs.judged.Contexts.{VaryingContext}
use Rattle.spec_interface.specs.declared.varyings.Direction.{Direction}
use Rattle.spec_interface.specs.declared.varyings.Direction.TheVariants.{Input, Output, VertexOutput, PrimitiveOutput}
use Rattle.spec_interface.specs.declared.varyings.Location.{Location}
use Rattle.typing_forms.specs.judged.Forms.{form_of_type}
use Rattle.typing_forms.specs.declared.form.Form.{Form}
use Rattle.typing_forms.specs.declared.form.Form.TheVariants as form

-- ---- per-primitive values

-- primitive outputs of a mesh shader are per-primitive, and fragment inputs may be, because only a pipeline with its mesh or
-- vertex shader says whether they are; nothing else is
abbrev pub PerPrimitiveOK : Direction → ShaderStage → (per_primitive : Bool) → Type 0
PerPrimitiveOK Input stage per_primitive = IsTrue per_primitive → stage ≡ Fragment
PerPrimitiveOK Output stage per_primitive = per_primitive ≡ false
PerPrimitiveOK VertexOutput stage per_primitive = per_primitive ≡ false
PerPrimitiveOK PrimitiveOutput stage per_primitive = per_primitive ≡ true

-- ---- per-vertex values

-- the elements of an array of length three
abbrev pub three : (base : ℕ) → ArraySize → Option ℕ
three base n = elim n [ size.Constant count ↦ if count == 3 then Some base else None | _ ↦ None ]

-- the effective type: with `PerVertex` interpolation the element type, because each vertex gives one element
abbrev pub varying_type : List PlainType → Option Interpolation → (type : ℕ) → Option ℕ
varying_type types None type = Some type
varying_type types (Some Perspective) type = Some type
varying_type types (Some Linear) type = Some type
varying_type types (Some Flat) type = Some type
varying_type types (Some PerVertex) type = option_and_then (λ a. three a.0 a.1) (array_of_form (form_of_type types type))

pub record PerVertexOK (c : VaryingContext) : Type 0 where
  pub fragment : c.stage ≡ Fragment
  pub capable : Has c.capabilities.0 PER_VERTEX.0

-- ---- interpolation

abbrev pub is_flat_sampling : Sampling → Bool
is_flat_sampling Center = false
is_flat_sampling Centroid = false
is_flat_sampling Sample = false
is_flat_sampling First = true
is_flat_sampling Either = true

-- which samplings are allowed with which interpolation: `Flat` may have one, though it says nothing, because SPIR-V and GLSL
-- tolerate it; `PerVertex` has none
abbrev pub sampling_fits : Interpolation → Sampling → Bool
sampling_fits Perspective s = not (is_flat_sampling s)
sampling_fits Linear s = not (is_flat_sampling s)
sampling_fits Flat s = is_flat_sampling s
sampling_fits PerVertex s = false

-- whether the value is interpolated between vertices
abbrev pub NeedsInterpolation : Direction → ShaderStage → (per_primitive : Bool) → Type 0
NeedsInterpolation Input stage per_primitive = (stage ≡ Fragment) × (per_primitive ≡ false)
NeedsInterpolation Output stage per_primitive = (stage ≡ Vertex) ⊎ (stage ≡ Mesh)
NeedsInterpolation VertexOutput stage per_primitive = (stage ≡ Vertex) ⊎ (stage ≡ Mesh)
NeedsInterpolation PrimitiveOutput stage per_primitive = (stage ≡ Vertex) ⊎ (stage ≡ Mesh)

-- floats have any interpolation, which front ends put in where none is written; integers must be declared flat, because they
-- have no default
abbrev pub InterpolationOK : ScalarKind → Option Interpolation → Type 0
InterpolationOK kind.Sint i = i ≡ Some Flat
InterpolationOK kind.Uint i = i ≡ Some Flat
InterpolationOK kind.Float i = IsSome i
InterpolationOK kind.Bool i = Unit {0}
InterpolationOK kind.AbstractInt i = Unit {0}
InterpolationOK kind.AbstractFloat i = Unit {0}

-- the scalar kind of a scalar or of a vector
abbrev pub kind_of : Form → Option ScalarKind
kind_of t = elim t [ form.Scalar s ↦ Some s.kind | form.Vector n s ↦ Some s.kind | _ ↦ None ]

-- a scalar or a vector, with an interpolation if one is required
abbrev pub IsVaryingValue : (between : Type 0) → Option Interpolation → Form → Type 0
IsVaryingValue between i t = IsSomeAnd (kind_of t) (λ kind. between → InterpolationOK kind i)

-- ---- the whole rule

-- A value of the type may be at the location.
pub record LocationOK (c : VaryingContext) (type : ℕ) (l : Location) : Type 0 where
  pub capable : IsTrue l.per_primitive → Has c.capabilities.0 MESH_SHADER.0
  pub primitive : PerPrimitiveOK c.direction c.stage l.per_primitive
  pub vertices : l.interpolation ≡ Some PerVertex → PerVertexOK c
  pub element : ℕ
  pub counts : varying_type c.types l.interpolation type ≡ Some element
  pub shared : HasFlag IoShareable (type_tree c.types element)
  pub value : l.interpolation ≢ Some PerVertex → IsVaryingValue (NeedsInterpolation c.direction c.stage l.per_primitive) l.interpolation (form_of_type c.types type)
  pub alone : l.blend_src ≡ None
  pub sampled : (i : Interpolation) (s : Sampling) → l.interpolation ≡ Some i → l.sampling ≡ Some s → sampling_fits i s ≡ true
  pub multisampled : l.sampling ≡ Some Sample → Has c.capabilities.0 MULTISAMPLED_SHADING.0
