-- Errors of mesh outputs.
use Rattle.std.specs.Prelude.{◌≡◌, ◌⊎◌, ◌∷◌, [], ℕ, Option}
use Rattle.function_entry_checks.specs.declared.error.EntryPointError.{EntryPointError}
use Rattle.function_entry_checks.specs.declared.error.EntryPointError.TheVariants as error
use Rattle.ir_items.specs.judged.Plain.{PlainModule}
use Rattle.ir_items.specs.declared.entries.MeshStageInfo.{MeshStageInfo}
use Rattle.ir_kinds.specs.declared.stages.MeshOutputTopology.{MeshOutputTopology}
use Rattle.spec_interface.specs.judged.Members.{topologies_at}
use Rattle.spec_interface.specs.judged.Meshes.{FieldsOK, HasParts, ImpliesMeshInfo, IsSaid}
use Rattle.spec_interface.specs.declared.parts.MeshParts.{MeshParts}

-- both are equal, without overrides and the variable
pub record AreSame (i j : MeshStageInfo) : Type 0 where
  pub topology : i.topology ≡ j.topology
  pub vertices : i.max_vertices ≡ j.max_vertices
  pub primitives : i.max_primitives ≡ j.max_primitives
  pub vertex : i.vertex_output_type ≡ j.vertex_output_type
  pub primitive : i.primitive_output_type ≡ j.primitive_output_type

-- a member of the output has the wrong type
pub record HasBadField (m : PlainModule) (variable : ℕ) : Type 0 where
  pub types : MeshParts
  pub parts : HasParts m variable types
  pub bad : (i : MeshStageInfo) (vertices_by primitives_by : Option ℕ) → FieldsOK m.types types i vertices_by primitives_by → ⊥

-- primitives of the output do not have exactly one built-in with their vertices
pub record HasBadPrimitives (m : PlainModule) (variable : ℕ) : Type 0 where
  pub types : MeshParts
  pub parts : HasParts m variable types
  pub info : MeshStageInfo
  pub vertices_by : Option ℕ
  pub primitives_by : Option ℕ
  pub fields : FieldsOK m.types types info vertices_by primitives_by
  pub bad : (t : MeshOutputTopology) → topologies_at m.types info.primitive_output_type ≡ t ∷ [] → ⊥

-- the errors of a mesh output variable
abbrev pub IsImpliedFault : PlainModule → (variable : ℕ) → EntryPointError → Type 0
IsImpliedFault m variable error.BadMeshOutputVariableType = (t : MeshParts) → HasParts m variable t → ⊥
IsImpliedFault m variable error.BadMeshOutputVariableField = HasBadField m variable
IsImpliedFault m variable error.InvalidMeshPrimitiveOutputType = HasBadPrimitives m variable
IsImpliedFault m variable _ = ⊥

-- the output implies other attributes than declared
pub record IsSaidOtherwise (m : PlainModule) (i : MeshStageInfo) : Type 0 where
  pub info : MeshStageInfo
  pub vertices_by : Option ℕ
  pub primitives_by : Option ℕ
  pub implied : ImpliesMeshInfo m i.output_variable info vertices_by primitives_by
  pub differs : ¬ IsSaid m i

-- the errors of declared attributes
abbrev pub IsSaidFault : PlainModule → MeshStageInfo → EntryPointError → Type 0
IsSaidFault m i error.BadMeshOutputVariableType = ((t : MeshParts) → HasParts m i.output_variable t → ⊥) ⊎ IsSaidOtherwise m i
IsSaidFault m i error.BadMeshOutputVariableField = HasBadField m i.output_variable
IsSaidFault m i error.InvalidMeshPrimitiveOutputType = HasBadPrimitives m i.output_variable
IsSaidFault m i _ = ⊥
