-- The exceptions of the rows of built-in values.
use Rattle.std.specs.Prelude.{◌≡◌, ◌≤◌, ◌<◌, ℕ, List, None, Some, slice_get}
use Rattle.ir_kinds.specs.declared.stages.ShaderStage.TheVariants.{Mesh}
use Rattle.spec_interface.specs.judged.Contexts.{VaryingContext}

-- the workgroup is one-dimensional: its size is 1 in the second and third dimension
abbrev pub IsLinearWorkgroup : List ℕ → Type 0
IsLinearWorkgroup sizes = (way many : ℕ) → 0 < way → slice_get sizes way ≡ Some many → many ≤ 1

-- a mesh shader without a task payload is exempt
abbrev pub HasNoTaskPayload : VaryingContext → Type 0
HasNoTaskPayload c = c.stage ≡ Mesh → c.payload ≡ None
