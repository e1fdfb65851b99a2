-- The steps of the check of a value at a location.
use Rattle.std.specs.Prelude.{◌≡◌, ◌≢◌, ◌⊎◌, ℕ, Bool, true, false, Option, Some, None, IsTrue}
use Rattle.ir_flags.specs.Sets.{Has}
use Rattle.ir_flags.specs.declared.settings.TheConstants.Capabilities.{MESH_SHADER}
use Rattle.ir_kinds.specs.declared.bindings.Interpolation.{Interpolation}
use Rattle.ir_kinds.specs.declared.bindings.Interpolation.TheVariants.{Flat, PerVertex}
use Rattle.ir_kinds.specs.declared.bindings.Sampling.{Sampling}
use Rattle.ir_kinds.specs.declared.scalars.ScalarKind.{ScalarKind}
use Rattle.ir_kinds.specs.declared.scalars.ScalarKind.TheVariants.{Sint, Uint, Float}
use Rattle.ir_kinds.specs.declared.stages.ShaderStage.{ShaderStage}
use Rattle.ir_kinds.specs.declared.stages.ShaderStage.TheVariants.{Fragment}
use Rattle.typing_layout.specs.judged.Flags.{HasFlag, IoShareable}
use Rattle.typing_layout.specs.judged.View.{type_tree}
use Rattle.spec_interface.specs.judged.Contexts.{VaryingContext}
use Rattle.spec_interface.specs.judged.Locations.{NeedsInterpolation, IsVaryingValue, PerPrimitiveOK, PerVertexOK, varying_type, sampling_fits}
use Rattle.spec_interface.specs.declared.varyings.Direction.{Direction}
use Rattle.spec_interface.specs.declared.varyings.Direction.TheVariants.{Input, PrimitiveOutput}
use Rattle.spec_interface.specs.declared.varyings.Location.{Location}
use Rattle.typing_forms.specs.judged.Forms.{form_of_type}
use Rattle.function_varying_checks.specs.declared.error.VaryingError.{VaryingError}
use Rattle.function_varying_checks.specs.declared.error.VaryingError.TheVariants as error

-- the relevant type exists, and per-vertex varyings are allowed, if it is one
pub record IsSpread (c : VaryingContext) (type : ℕ) (l : Location) (element : ℕ) : Type 0 where
  pub capable : IsTrue l.per_primitive → Has c.capabilities.0 MESH_SHADER.0
  pub vertices : l.interpolation ≡ Some PerVertex → PerVertexOK c
  pub counts : varying_type c.types l.interpolation type ≡ Some element

-- a value of the relevant type is allowed at the location
pub record IsKept (c : VaryingContext) (element : ℕ) (l : Location) : Type 0 where
  pub shared : HasFlag IoShareable (type_tree c.types element)
  pub primitive : PerPrimitiveOK c.direction c.stage l.per_primitive
  pub alone : l.blend_src ≡ None

abbrev pub IsPrimitiveFault : Direction → ShaderStage → (per_primitive : Bool) → VaryingError → Type 0
IsPrimitiveFault direction stage per_primitive error.InvalidPerPrimitive = (per_primitive ≡ true) × (direction ≢ PrimitiveOutput) × ((direction ≢ Input) ⊎ (stage ≢ Fragment))
IsPrimitiveFault direction stage per_primitive error.MissingPerPrimitive = (per_primitive ≡ false) × (direction ≡ PrimitiveOutput)
IsPrimitiveFault direction stage per_primitive _ = ⊥

-- the sampling is allowed with the interpolation
abbrev pub AreCombined : Location → Type 0
AreCombined l = (i : Interpolation) (s : Sampling) → l.interpolation ≡ Some i → l.sampling ≡ Some s → sampling_fits i s ≡ true

-- an interpolated value does not have the interpolation of its kind
abbrev pub IsUnfound : ScalarKind → Option Interpolation → VaryingError → Type 0
IsUnfound kind i error.InvalidInterpolationForInteger = ((kind ≡ Sint) ⊎ (kind ≡ Uint)) × (i ≢ Some Flat)
IsUnfound kind i error.MissingInterpolation = (kind ≡ Float) × (i ≡ None)
IsUnfound kind i _ = ⊥

abbrev pub ValueOK : VaryingContext → (type : ℕ) → Location → Type 0
ValueOK c type l = l.interpolation ≢ Some PerVertex → IsVaryingValue (NeedsInterpolation c.direction c.stage l.per_primitive) l.interpolation (form_of_type c.types type)
