-- Facts about the interfaces of a module's entry points.
use Rattle.std.specs.Prelude.{◌≡◌, ◌∷◌, [], ℕ, List, Some}
use Rattle.std.specs.BTreeMap.{get}
use Rattle.std.specs.Ordering.{nat_cmp}
use Rattle.function_entries.specs.declared.known.KnownInterfaces.{KnownInterfaces}
use Rattle.function_entries.specs.declared.known.KnownMeshes.{KnownMeshes}
use Rattle.ir_flags.specs.declared.settings.Capabilities.{Capabilities}
use Rattle.ir_flags.specs.declared.settings.ValidationFlags.{ValidationFlags}
use Rattle.ir_kinds.specs.declared.stages.MeshOutputTopology.{MeshOutputTopology}
use Rattle.ir_types.specs.judged.Plain.{PlainMember, PlainType}
use Rattle.spec_interface.specs.judged.Members.{members_at, topologies_at}
use Rattle.spec_interface.specs.judged.Meshes.{AreParts}
use Rattle.spec_interface.specs.declared.parts.MeshParts.{MeshParts}
use Rattle.function_varyings.specs.Known.{AreKnownOf}

-- the type is a struct with these members
pub record ArePartsAt (types : List PlainType) (type : ℕ) (t : MeshParts) : Type 0 where
  pub members : List PlainMember
  pub struct : members_at types type ≡ Some members
  pub parts : AreParts members t

-- the facts noted for types hold
pub record AreMeshesKnown (types : List PlainType) (known : KnownMeshes) : Type 0 where
  pub parts : (type : ℕ) (t : MeshParts) → get nat_cmp known.parts type ≡ Some t → ArePartsAt types type t
  pub topologies : (type : ℕ) (t : MeshOutputTopology) → get nat_cmp known.topologies type ≡ Some t → topologies_at types type ≡ t ∷ []

-- They hold under these flags and capabilities, for these types.
pub record AreInterfacesKnown (flags : ValidationFlags) (capabilities : Capabilities) (types : List PlainType) (known : KnownInterfaces) : Type 0 where
  pub varyings : AreKnownOf flags capabilities types known.varyings
  pub meshes : AreMeshesKnown types known.meshes
