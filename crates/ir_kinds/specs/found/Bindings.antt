-- Views of bindings, and the built-in with a primitive's vertex indices.
use Rattle.std.specs.Prelude.{Option, Some, None}
use Rattle.ir_kinds.specs.declared.bindings.Binding.{Binding}
use Rattle.ir_kinds.specs.declared.bindings.Binding.TheVariants.{BuiltIn as built_in, Location}
use Rattle.ir_kinds.specs.declared.bindings.BuiltIn.{BuiltIn}
use Rattle.ir_kinds.specs.declared.bindings.BuiltIn.TheVariants.{PointIndex, LineIndices, TriangleIndices}
use Rattle.ir_kinds.specs.declared.stages.MeshOutputTopology.{MeshOutputTopology}
use Rattle.ir_kinds.specs.declared.stages.MeshOutputTopology.TheVariants.{Points, Lines, Triangles}

abbrev pub built_in_of : Binding → Option BuiltIn
built_in_of (built_in b) = Some b
built_in_of (Location location interpolation sampling blend_src per_primitive) = None

-- the built-in with the vertex indices of a primitive
abbrev pub index_built_in : MeshOutputTopology → BuiltIn
index_built_in Points = PointIndex
index_built_in Lines = LineIndices
index_built_in Triangles = TriangleIndices
