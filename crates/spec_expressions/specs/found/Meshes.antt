-- The output variable of a mesh shader.
use Rattle.std.specs.Prelude.{ℕ, List, [], ◌∷◌, Option, Some, None}
use Rattle.ir_items.specs.declared.entries.MeshStageInfo.{MeshStageInfo}

abbrev pub mesh_variables : Option MeshStageInfo → List ℕ
mesh_variables o = elim o [ None ↦ [] | Some mesh ↦ mesh.output_variable ∷ [] ]
