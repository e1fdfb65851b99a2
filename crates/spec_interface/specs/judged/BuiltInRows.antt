-- The built-in values as a table: the stages that have each as an input or output, whether it is a primitive output of a mesh
-- shader only, its type, and its capability.
use Rattle.std.specs.Prelude.{Bool, true, false, Some, None}
use Rattle.ir_flags.specs.declared.settings.Capabilities.{Capabilities}
use Rattle.ir_flags.specs.declared.settings.TheConstants.Capabilities.{PRIMITIVE_INDEX, CLIP_DISTANCES, CULL_DISTANCE, MULTIVIEW, MULTISAMPLED_SHADING, SUBGROUP, SHADER_BARYCENTRICS, MESH_SHADER, DRAW_INDEX}
use Rattle.ir_flags.specs.declared.stages.ShaderStages.{ShaderStages}
use Rattle.ir_flags.specs.declared.stages.TheConstants.ShaderStages.{VERTEX, FRAGMENT, TASK, COMPUTE_LIKE}
use Rattle.ir_kinds.specs.judged.Scalars.{boolean, floating, unsigned}
use Rattle.ir_kinds.specs.declared.bindings.BuiltIn.{BuiltIn}
use Rattle.ir_kinds.specs.declared.bindings.BuiltIn.TheVariants.{PrimitiveIndex, Position, ViewIndex, BaseInstance, BaseVertex, ClipDistances, CullDistance, InstanceIndex, PointSize, VertexIndex, DrawIndex, FragDepth, PointCoord, FrontFacing, Barycentric, SampleIndex, SampleMask, GlobalInvocationId, LocalInvocationId, LocalInvocationIndex, WorkGroupId, WorkGroupSize, NumWorkGroups, NumSubgroups, SubgroupId, SubgroupSize, SubgroupInvocationId, MeshTaskSize, CullPrimitive, PointIndex, LineIndices, TriangleIndices, VertexCount, Vertices, PrimitiveCount, Primitives, RayInvocationId, NumRayInvocations, InstanceCustomData, GeometryIndex, WorldRayOrigin, WorldRayDirection, ObjectRayOrigin, ObjectRayDirection, RayTmin, RayTCurrentMax, ObjectToWorld, WorldToObject, HitKind}
use Rattle.ir_kinds.specs.declared.scalars.VectorSize.{VectorSize}
use Rattle.ir_kinds.specs.declared.scalars.VectorSize.TheVariants.{Bi, Tri, Quad}
use Rattle.spec_interface.specs.declared.rows.BuiltInRow.{BuiltInRow}
use Rattle.spec_interface.specs.declared.rows.BuiltInType.{BuiltInType}
use Rattle.spec_interface.specs.declared.rows.BuiltInType.TheVariants.{Value, Distances}
use Rattle.spec_interface.specs.declared.rows.Exception.{Exception}
use Rattle.spec_interface.specs.declared.rows.Exception.TheVariants as exception
use Rattle.spec_interface.specs.declared.rows.TheConstants.BuiltInRow.{NONE, RASTER, HITS, HIT_OR_MISS, RAYS, INSTANCES, DRAWS, VIEWS, PRIMITIVES, SUBGROUPS}
use Rattle.typing_forms.specs.declared.form.Form.TheVariants.{Scalar as scalar, Vector as vector, Matrix as matrix}

-- ---- types

abbrev pub uint : BuiltInType
uint = Value (scalar (unsigned 4))

abbrev pub float : BuiltInType
float = Value (scalar (floating 4))

abbrev pub truth : BuiltInType
truth = Value (scalar boolean)

abbrev pub uint_vector : VectorSize → BuiltInType
uint_vector n = Value (vector n (unsigned 4))

abbrev pub float_vector : VectorSize → BuiltInType
float_vector n = Value (vector n (floating 4))

-- ---- rows

abbrev pub row_with : (ins outs : ShaderStages) → (primitive : Bool) → BuiltInType → BuiltInRow
row_with ins outs primitive type = record { inputs = ins; outputs = outs; primitive = primitive; ty = type; capability = None; exception = exception.None }

-- requires a capability
abbrev pub by : Capabilities → BuiltInRow → BuiltInRow
by needed r = record r { capability = Some needed }

abbrev pub but : Exception → BuiltInRow → BuiltInRow
but e r = record r { exception = e }

-- an input of these stages
abbrev pub taken : ShaderStages → BuiltInType → BuiltInRow
taken inputs type = row_with inputs NONE false type

-- an output of these stages
abbrev pub gives : ShaderStages → BuiltInType → BuiltInRow
gives outputs type = row_with NONE outputs false type

-- both an input and an output, as the built-in values of rays
abbrev pub both : ShaderStages → BuiltInType → BuiltInRow
both stages type = row_with stages stages false type

-- a primitive output of a mesh shader only
abbrev pub with_primitive : BuiltInType → BuiltInRow
with_primitive type = by MESH_SHADER (row_with NONE NONE true type)

-- The four parts of a mesh output have no stage: they are members of its output variable.
abbrev pub built_in_row : BuiltIn → BuiltInRow
built_in_row PrimitiveIndex = but exception.FreeAtHits (by PRIMITIVE_INDEX (row_with PRIMITIVES NONE true uint))
built_in_row (Position invariant) = row_with FRAGMENT RASTER false (float_vector Quad)
built_in_row ViewIndex = by MULTIVIEW (taken VIEWS uint)
built_in_row BaseInstance = taken VERTEX uint
built_in_row BaseVertex = taken VERTEX uint
built_in_row ClipDistances = by CLIP_DISTANCES (gives RASTER Distances)
built_in_row CullDistance = by CULL_DISTANCE (gives RASTER Distances)
built_in_row InstanceIndex = taken INSTANCES uint
built_in_row PointSize = gives RASTER float
built_in_row VertexIndex = taken VERTEX uint
built_in_row DrawIndex = but exception.NotAfterTasks (by DRAW_INDEX (taken DRAWS uint))
built_in_row FragDepth = gives FRAGMENT float
built_in_row PointCoord = taken FRAGMENT (float_vector Bi)
built_in_row FrontFacing = taken FRAGMENT truth
built_in_row (Barycentric perspective) = by SHADER_BARYCENTRICS (taken FRAGMENT (float_vector Tri))
built_in_row SampleIndex = by MULTISAMPLED_SHADING (taken FRAGMENT uint)
built_in_row SampleMask = both FRAGMENT uint
built_in_row GlobalInvocationId = taken COMPUTE_LIKE (uint_vector Tri)
built_in_row LocalInvocationId = taken COMPUTE_LIKE (uint_vector Tri)
built_in_row LocalInvocationIndex = taken COMPUTE_LIKE uint
built_in_row WorkGroupId = taken COMPUTE_LIKE (uint_vector Tri)
built_in_row WorkGroupSize = taken COMPUTE_LIKE (uint_vector Tri)
built_in_row NumWorkGroups = taken COMPUTE_LIKE (uint_vector Tri)
built_in_row NumSubgroups = by SUBGROUP (taken COMPUTE_LIKE uint)
built_in_row SubgroupId = but exception.RowsOnly (by SUBGROUP (taken COMPUTE_LIKE uint))
built_in_row SubgroupSize = by SUBGROUP (taken SUBGROUPS uint)
built_in_row SubgroupInvocationId = but exception.RowsOnly (by SUBGROUP (taken SUBGROUPS uint))
built_in_row MeshTaskSize = by MESH_SHADER (gives TASK (uint_vector Tri))
built_in_row CullPrimitive = with_primitive truth
built_in_row PointIndex = with_primitive uint
built_in_row LineIndices = with_primitive (uint_vector Bi)
built_in_row TriangleIndices = with_primitive (uint_vector Tri)
built_in_row VertexCount = taken NONE uint
built_in_row Vertices = taken NONE uint
built_in_row PrimitiveCount = taken NONE uint
built_in_row Primitives = taken NONE uint
built_in_row RayInvocationId = both RAYS (uint_vector Tri)
built_in_row NumRayInvocations = both RAYS (uint_vector Tri)
built_in_row InstanceCustomData = both HITS uint
built_in_row GeometryIndex = both HITS uint
built_in_row WorldRayOrigin = both HIT_OR_MISS (float_vector Tri)
built_in_row WorldRayDirection = both HIT_OR_MISS (float_vector Tri)
built_in_row ObjectRayOrigin = both HITS (float_vector Tri)
built_in_row ObjectRayDirection = both HITS (float_vector Tri)
built_in_row RayTmin = both HIT_OR_MISS float
built_in_row RayTCurrentMax = both HIT_OR_MISS float
built_in_row ObjectToWorld = both HITS (Value (matrix Quad Tri (floating 4)))
built_in_row WorldToObject = both HITS (Value (matrix Quad Tri (floating 4)))
built_in_row HitKind = both HITS uint
