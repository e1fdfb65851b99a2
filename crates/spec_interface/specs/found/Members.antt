-- Struct members, one by one.
use Rattle.std.specs.Prelude.{ℕ, List, Option, Some, None, if◌then◌else◌, filter_map}
use Rattle.ir_kinds.specs.declared.bindings.Binding.TheVariants.{BuiltIn}
use Rattle.ir_kinds.specs.declared.bindings.BuiltIn.{BuiltIn as BuiltInValue}
use Rattle.ir_kinds.specs.declared.stages.MeshOutputTopology.{MeshOutputTopology}
use Rattle.ir_types.specs.judged.Plain.{PlainMember}
use Rattle.spec_interface.specs.declared.parts.MeshPart.{MeshPart}
use Rattle.spec_interface.specs.judged.Members.{is_part, topology_of}

-- for each indices member, its topology
abbrev pub member_topologies : List PlainMember → List MeshOutputTopology
member_topologies members = filter_map (λ (m : PlainMember). topology_of m.binding) members

-- the type of a member, if it is bound to the part
abbrev pub type_bound : MeshPart → PlainMember → Option ℕ
type_bound part m = if is_part part m.binding then Some m.ty else None

-- a member of a type, without a name, bound to a built-in
abbrev pub member : (type : ℕ) → BuiltInValue → PlainMember
member type value = record { name = None; ty = type; binding = Some (BuiltIn value); offset = 0 }
