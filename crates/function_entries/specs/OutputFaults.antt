-- Errors of mesh shaders.
use Rattle.std.specs.Prelude.{◌≡◌, ◌≢◌, ℕ, Some, false}
use Rattle.function_entry_checks.specs.declared.error.EntryPointError.{EntryPointError}
use Rattle.function_entry_checks.specs.declared.error.EntryPointError.TheVariants as error
use Rattle.function_entries.specs.MeshFaults.{IsSaidFault}
use Rattle.function_entries.specs.VaryingFaults.{IsOutputFault}
use Rattle.ir_flags.specs.Sets.{Has}
use Rattle.ir_flags.specs.declared.settings.Capabilities.{Capabilities}
use Rattle.ir_flags.specs.declared.settings.TheConstants.Capabilities.{MESH_SHADER_POINT_TOPOLOGY}
use Rattle.ir_flags.specs.declared.settings.ValidationFlags.{ValidationFlags}
use Rattle.ir_items.specs.judged.Plain.{PlainEntry, PlainModule}
use Rattle.ir_items.specs.declared.entries.MeshStageInfo.{MeshStageInfo}
use Rattle.ir_kinds.specs.declared.bindings.BuiltIn.TheVariants.{Position}
use Rattle.ir_kinds.specs.declared.spaces.AddressSpace.TheVariants.{WorkGroup}
use Rattle.ir_kinds.specs.declared.stages.MeshOutputTopology.TheVariants.{Points}
use Rattle.spec_interface.specs.judged.Payloads.{space_at}
use Rattle.spec_interface.specs.judged.Contexts.{context_of}
use Rattle.spec_interface.specs.judged.Varyings.{HasBuiltIn, mesh_varyings}
use Rattle.spec_interface.specs.declared.varyings.Direction.TheVariants.{VertexOutput, PrimitiveOutput}

-- point primitives need a missing capability
abbrev pub IsPointFault : Capabilities → MeshStageInfo → EntryPointError → Type 0
IsPointFault capabilities i (error.UnsupportedCapability c) = (c ≡ MESH_SHADER_POINT_TOPOLOGY) × (i.topology ≡ Points) × ¬ Has capabilities.0 MESH_SHADER_POINT_TOPOLOGY.0
IsPointFault capabilities i _ = ⊥

abbrev pub IsSpaceFault : PlainModule → MeshStageInfo → EntryPointError → Type 0
IsSpaceFault m i error.WrongMeshOutputAddressSpace = space_at m i.output_variable ≢ Some WorkGroup
IsSpaceFault m i _ = ⊥

-- of the attributes, by the variable
pub data IsOwnMeshFault (capabilities : Capabilities) (m : PlainModule) (i : MeshStageInfo) (x : EntryPointError) : Type 0 where
  of_space : IsSpaceFault m i x → IsOwnMeshFault capabilities m i x
  of_said : IsSaidFault m i x → IsOwnMeshFault capabilities m i x
  of_points : IsPointFault capabilities i x → IsOwnMeshFault capabilities m i x

abbrev pub IsPositionFault : PlainModule → (type : ℕ) → EntryPointError → Type 0
IsPositionFault m type error.MissingVertexOutputPosition = ¬ HasBuiltIn (mesh_varyings m.types type) (Position false)
IsPositionFault m type _ = ⊥

-- of vertices
pub data IsVertexFault (flags : ValidationFlags) (capabilities : Capabilities) (m : PlainModule) (e : PlainEntry) (type : ℕ) (x : EntryPointError) : Type 0 where
  of_output : IsOutputFault (context_of flags capabilities m e VertexOutput) type x → IsVertexFault flags capabilities m e type x
  of_position : IsPositionFault m type x → IsVertexFault flags capabilities m e type x

pub data IsMeshFault (flags : ValidationFlags) (capabilities : Capabilities) (m : PlainModule) (e : PlainEntry) (i : MeshStageInfo) (x : EntryPointError) : Type 0 where
  of_own : IsOwnMeshFault capabilities m i x → IsMeshFault flags capabilities m e i x
  of_vertices : IsVertexFault flags capabilities m e i.vertex_output_type x → IsMeshFault flags capabilities m e i x
  of_primitives : IsOutputFault (context_of flags capabilities m e PrimitiveOutput) i.primitive_output_type x → IsMeshFault flags capabilities m e i x
