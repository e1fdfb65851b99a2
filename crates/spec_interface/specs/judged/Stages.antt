-- What the stage of an entry point requires of it besides its function.
use Rattle.std.specs.Prelude.{◌≡◌, ◌≤◌, ◌↔◌, ℕ, All, Bool, true, false, Option, Some, None, IfSome, IsSome}
use Rattle.ir_flags.specs.Sets.{Has}
use Rattle.ir_flags.specs.declared.settings.Capabilities.{Capabilities}
use Rattle.ir_flags.specs.declared.settings.TheConstants.Capabilities.{EARLY_DEPTH_TEST, MESH_SHADER, RAY_TRACING_PIPELINE}
use Rattle.ir_flags.specs.declared.stages.ShaderStages.{ShaderStages}
use Rattle.ir_flags.specs.declared.stages.TheConstants.ShaderStages as stages
use Rattle.ir_items.specs.judged.Plain.{PlainEntry}
use Rattle.ir_kinds.specs.declared.stages.ShaderStage.{ShaderStage}
use Rattle.ir_kinds.specs.declared.stages.ShaderStage.TheVariants.{Vertex, Fragment, Compute, Mesh, Task, RayGeneration, AnyHit, ClosestHit, Miss}
use Rattle.spec_interface.specs.declared.sizes.TheConstants.{MAX_WORKGROUP_SIZE}

-- Of a stage: its singleton set, its required capability, if any, whether it has workgroups, whether it has ray
-- payloads, and whether it has incoming ray payloads.
pub record StageRow : Type 0 where
  pub set : ShaderStages
  pub needs : Option Capabilities
  pub workgroups : Bool
  pub traces : Bool
  pub incoming : Bool

abbrev pub stage_row : ShaderStage → StageRow
stage_row Vertex = record { set = stages.VERTEX; needs = None; workgroups = false; traces = false; incoming = false }
stage_row Fragment = record { set = stages.FRAGMENT; needs = None; workgroups = false; traces = false; incoming = false }
stage_row Compute = record { set = stages.COMPUTE; needs = None; workgroups = true; traces = false; incoming = false }
stage_row Mesh = record { set = stages.MESH; needs = Some MESH_SHADER; workgroups = true; traces = false; incoming = false }
stage_row Task = record { set = stages.TASK; needs = Some MESH_SHADER; workgroups = true; traces = false; incoming = false }
stage_row RayGeneration = record { set = stages.RAY_GENERATION; needs = Some RAY_TRACING_PIPELINE; workgroups = false; traces = true; incoming = false }
stage_row AnyHit = record { set = stages.ANY_HIT; needs = Some RAY_TRACING_PIPELINE; workgroups = false; traces = false; incoming = true }
stage_row ClosestHit = record { set = stages.CLOSEST_HIT; needs = Some RAY_TRACING_PIPELINE; workgroups = false; traces = true; incoming = true }
stage_row Miss = record { set = stages.MISS; needs = Some RAY_TRACING_PIPELINE; workgroups = false; traces = true; incoming = true }

-- the workgroup size in one dimension: from 1 to the maximum if the stage has workgroups, otherwise 0
abbrev pub SizeOK : (workgroups : Bool) → ℕ → Type 0
SizeOK workgroups n = elim workgroups [ true ↦ (1 ≤ n) × (n ≤ MAX_WORKGROUP_SIZE) | false ↦ n ≡ 0 ]

-- early depth tests are for fragment shaders, and require a capability
pub record EarlyOK (capabilities : Capabilities) (stage : ShaderStage) : Type 0 where
  pub has : Has capabilities.0 EARLY_DEPTH_TEST.0
  pub fragments : stage ≡ Fragment

-- The requirements of an entry point's stage: only mesh shaders have a mesh info.
pub record StageOK (capabilities : Capabilities) (e : PlainEntry) : Type 0 where
  pub needed : IfSome (stage_row e.stage).needs (λ c. Has capabilities.0 c.0)
  pub early : IsSome e.early → EarlyOK capabilities e.stage
  pub sizes : All (SizeOK (stage_row e.stage).workgroups) e.sizes
  pub mesh : IsSome e.mesh ↔ (e.stage ≡ Mesh)
