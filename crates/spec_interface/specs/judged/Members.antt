-- Members of structs by their built-in values.
use Rattle.std.specs.Prelude.{ℕ, List, [], Bool, true, false, Option, Some, None, if◌then◌else◌, filter_map, unwrap_or}
use Rattle.ir_kinds.specs.declared.bindings.Binding.{Binding}
use Rattle.ir_kinds.specs.declared.bindings.Binding.TheVariants.{BuiltIn}
use Rattle.ir_kinds.specs.declared.bindings.BuiltIn.TheVariants as built_in
use Rattle.ir_kinds.specs.declared.stages.MeshOutputTopology.{MeshOutputTopology}
use Rattle.ir_kinds.specs.declared.stages.MeshOutputTopology.TheVariants.{Points, Lines, Triangles}
use Rattle.ir_types.specs.judged.Plain.{PlainInner, struct, PlainMember, PlainType}
use Rattle.spec_interface.specs.declared.parts.MeshPart.{MeshPart}
use Rattle.spec_interface.specs.declared.parts.MeshPart.TheVariants.{VertexCount, Vertices, PrimitiveCount, Primitives}
use Rattle.typing_forms.specs.judged.Resolutions.{inner_at}

-- the members of a struct
abbrev pub members_in : Option PlainInner → Option (List PlainMember)
members_in o = elim o [ Some (struct members span) ↦ Some members | _ ↦ None ]

-- the members of the struct type at a handle
abbrev pub members_at : List PlainType → (type : ℕ) → Option (List PlainMember)
members_at types type = members_in (inner_at types type)

-- ---- vertex indices

-- the topology of an indices built-in value
abbrev pub topology_of : Option Binding → Option MeshOutputTopology
topology_of (Some (BuiltIn built_in.PointIndex)) = Some Points
topology_of (Some (BuiltIn built_in.LineIndices)) = Some Lines
topology_of (Some (BuiltIn built_in.TriangleIndices)) = Some Triangles
topology_of _ = None

-- for each indices member of the struct type at a handle, its topology
abbrev pub topologies_at : List PlainType → (type : ℕ) → List MeshOutputTopology
topologies_at types type = filter_map (λ (m : PlainMember). topology_of m.binding) (unwrap_or (members_at types type) [])

-- ---- mesh shader outputs

-- the member is bound to the part
abbrev pub is_part : MeshPart → Option Binding → Bool
is_part VertexCount (Some (BuiltIn built_in.VertexCount)) = true
is_part Vertices (Some (BuiltIn built_in.Vertices)) = true
is_part PrimitiveCount (Some (BuiltIn built_in.PrimitiveCount)) = true
is_part Primitives (Some (BuiltIn built_in.Primitives)) = true
is_part _ _ = false

-- the types of the members that are bound to a part
abbrev pub types_bound : MeshPart → List PlainMember → List ℕ
types_bound part members = filter_map (λ (m : PlainMember). if is_part part m.binding then Some m.ty else None) members
