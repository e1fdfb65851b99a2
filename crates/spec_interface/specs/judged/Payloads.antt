-- The payload from a task shader to mesh shaders.
use Rattle.std.specs.Prelude.{◌≡◌, ℕ, Bool, true, false, IsTrue, Option, Some, IfSome, IsSome, option_map, option_and_then, slice_get}
use Rattle.ir_items.specs.judged.GlobalPlain.{PlainGlobal}
use Rattle.ir_items.specs.judged.Plain.{PlainEntry, PlainModule}
use Rattle.ir_kinds.specs.declared.bindings.ResourceBinding.{ResourceBinding}
use Rattle.ir_kinds.specs.declared.spaces.AddressSpace.{AddressSpace}
use Rattle.ir_kinds.specs.declared.spaces.AddressSpace.TheVariants.{TaskPayload}
use Rattle.ir_kinds.specs.declared.stages.ShaderStage.{ShaderStage}
use Rattle.ir_kinds.specs.declared.stages.ShaderStage.TheVariants.{Mesh, Task}

-- the address space of the global variable at a handle, and its resource binding
abbrev pub space_at : PlainModule → ℕ → Option AddressSpace
space_at m g = option_map (λ (v : PlainGlobal). v.space) (slice_get m.globals g)

abbrev pub binding_at : PlainModule → ℕ → Option ResourceBinding
binding_at m g = option_and_then (λ (v : PlainGlobal). v.binding) (slice_get m.globals g)

-- the stages that may have a task payload; a task shader must have one
abbrev pub has_payload : ShaderStage → Bool
has_payload stage = elim stage [ Mesh ↦ true | Task ↦ true | _ ↦ false ]

pub record PayloadOK (m : PlainModule) (e : PlainEntry) : Type 0 where
  pub handed : e.stage ≡ Task → IsSome e.payload
  pub stages : IsSome e.payload → IsTrue (has_payload e.stage)
  pub lies : IfSome e.payload (λ g. space_at m g ≡ Some TaskPayload)
