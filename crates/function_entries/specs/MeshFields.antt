-- Mesh outputs, by the members of their variable.
use Rattle.std.specs.Prelude.{ℕ}
use Rattle.function_entries.specs.declared.meshes.Fields.{Fields}
use Rattle.ir_items.specs.judged.Plain.{PlainModule}
use Rattle.spec_interface.specs.judged.Meshes.{HasParts, HoldsMost}
use Rattle.spec_interface.specs.found.Meshes.{IsCount}
use Rattle.spec_interface.specs.declared.parts.MeshParts.{MeshParts}

-- the variable has members, of which these are the vertices and the primitives
pub record HasFields (m : PlainModule) (variable : ℕ) (f : Fields) : Type 0 where
  pub types : MeshParts
  pub parts : HasParts m variable types
  pub vertex_count : IsCount m.types types.vertex_count
  pub primitive_count : IsCount m.types types.primitive_count
  pub vertices : HoldsMost m.types types.vertices f.vertices.element f.vertices.most f.vertices.by
  pub primitives : HoldsMost m.types types.primitives f.primitives.element f.primitives.most f.primitives.by
