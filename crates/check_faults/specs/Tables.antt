-- The tables of part names and references, and lookup in them.
use Rattle.std.specs.Prelude.{ℕ, List, [], ◌∷◌, codes, Option, Some, None, if◌then◌else◌, slice_get}
use Rattle.std.specs.Str.{bytes_eq}
use Rattle.std.specs.Borrow.{Bor}
use Rattle.check_faults.specs.declared.forms.Names.{Names}
use Rattle.check_faults.specs.declared.forms.Names.TheVariants as names
use Rattle.check_faults.specs.declared.parts.Part.{Part}
use Rattle.check_faults.specs.declared.parts.Part.TheVariants.{Plain, Row, ListOf}
use Rattle.check_faults.specs.declared.parts.Row.{Row as Rows}
use Rattle.check_faults.specs.declared.parts.Row.TheVariants as rows

-- a row of a table of words, as its text and its value
abbrev pub spelled : {A : Type 0} → Bor (List ℕ) × A → List ℕ × A
spelled entry = (entry.0.now, entry.1)

-- a row with a list as its value
abbrev pub listed : {A : Type 0} → Bor (List ℕ) × Bor (List A) → List ℕ × List A
listed entry = (entry.0.now, entry.1.now)

-- the value of a word in a table
abbrev pub lookup : {A : Type 0} → List ℕ → List (List ℕ × A) → Option A
lookup w [] = None
lookup w (e ∷ es) = if bytes_eq w e.0 then Some e.1 else lookup w es

-- the list for a word, or empty if there is none
abbrev pub list_for : {A : Type 0} → List ℕ → List (List ℕ × List A) → List A
list_for w [] = []
list_for w (e ∷ es) = if bytes_eq w e.0 then e.1 else list_for w es

-- the items that handles of a kind reference
abbrev pub kinds : List (List ℕ × Names)
kinds = (codes "type", names.«Type») ∷ (codes "constant", names.Constant) ∷ (codes "override", names.Override) ∷ (codes "global", names.Global) ∷ (codes "function", names.Function) ∷ (codes "local", names.Local) ∷ (codes "expression", names.Expression) ∷ (codes "filter", names.Filter) ∷ []

-- the parts of an expression that are handles, by its word
abbrev pub expression_forms : List (List ℕ × List (ℕ × Names))
expression_forms =
    (codes "Constant", (1, names.Constant) ∷ []) ∷
    (codes "Override", (1, names.Override) ∷ []) ∷
    (codes "ZeroValue", (1, names.«Type») ∷ []) ∷
    (codes "Compose", (1, names.«Type») ∷ (2, names.Expression) ∷ []) ∷
    (codes "Access", (1, names.Expression) ∷ (2, names.Expression) ∷ []) ∷
    (codes "AccessIndex", (1, names.Expression) ∷ []) ∷
    (codes "Splat", (2, names.Expression) ∷ []) ∷
    (codes "Swizzle", (2, names.Expression) ∷ []) ∷
    (codes "GlobalVariable", (1, names.Global) ∷ []) ∷
    (codes "LocalVariable", (1, names.Local) ∷ []) ∷
    (codes "Load", (1, names.Expression) ∷ []) ∷
    (codes "ImageSample", (1, names.Expression) ∷ (2, names.Expression) ∷ (4, names.Expression) ∷ (5, names.Expression) ∷ (6, names.Expression) ∷ (7, names.Expression) ∷ (8, names.Expression) ∷ []) ∷
    (codes "ImageLoad", (1, names.Expression) ∷ (2, names.Expression) ∷ (3, names.Expression) ∷ (4, names.Expression) ∷ (5, names.Expression) ∷ []) ∷
    (codes "ImageQuery", (1, names.Expression) ∷ (2, names.Expression) ∷ []) ∷
    (codes "Unary", (2, names.Expression) ∷ []) ∷
    (codes "Binary", (2, names.Expression) ∷ (3, names.Expression) ∷ []) ∷
    (codes "Select", (1, names.Expression) ∷ (2, names.Expression) ∷ (3, names.Expression) ∷ []) ∷
    (codes "Derivative", (3, names.Expression) ∷ []) ∷
    (codes "Relational", (2, names.Expression) ∷ []) ∷
    (codes "Math", (2, names.Expression) ∷ (3, names.Expression) ∷ (4, names.Expression) ∷ (5, names.Expression) ∷ []) ∷
    (codes "As", (1, names.Expression) ∷ []) ∷
    (codes "CallResult", (1, names.Function) ∷ []) ∷
    (codes "AtomicResult", (1, names.«Type») ∷ []) ∷
    (codes "WorkGroupUniformLoadResult", (1, names.«Type») ∷ []) ∷
    (codes "ArrayLength", (1, names.Expression) ∷ []) ∷
    (codes "RayQueryVertexPositions", (1, names.Expression) ∷ []) ∷
    (codes "RayQueryGetIntersection", (1, names.Expression) ∷ []) ∷
    (codes "SubgroupOperationResult", (1, names.«Type») ∷ []) ∷
    (codes "CooperativeLoad", (4, names.Expression) ∷ (5, names.Expression) ∷ []) ∷
    (codes "CooperativeMultiplyAdd", (1, names.Expression) ∷ (2, names.Expression) ∷ (3, names.Expression) ∷ []) ∷
    []

-- the parts of a statement that are handles, by its word
abbrev pub statement_forms : List (List ℕ × List (ℕ × Names))
statement_forms =
    (codes "If", (1, names.Expression) ∷ []) ∷
    (codes "Switch", (1, names.Expression) ∷ []) ∷
    (codes "Loop", (3, names.Expression) ∷ []) ∷
    (codes "Return", (1, names.Expression) ∷ []) ∷
    (codes "Store", (1, names.Expression) ∷ (2, names.Expression) ∷ []) ∷
    (codes "ImageStore", (1, names.Expression) ∷ (2, names.Expression) ∷ (3, names.Expression) ∷ (4, names.Expression) ∷ []) ∷
    (codes "Atomic", (1, names.Expression) ∷ (2, names.Expression) ∷ (3, names.Expression) ∷ (4, names.Expression) ∷ []) ∷
    (codes "ImageAtomic", (1, names.Expression) ∷ (2, names.Expression) ∷ (3, names.Expression) ∷ (4, names.Expression) ∷ (5, names.Expression) ∷ []) ∷
    (codes "WorkGroupUniformLoad", (1, names.Expression) ∷ (2, names.Expression) ∷ []) ∷
    (codes "Call", (1, names.Function) ∷ (2, names.Expression) ∷ (3, names.Expression) ∷ []) ∷
    (codes "RayQuery", (1, names.Expression) ∷ (2, names.Expression) ∷ []) ∷
    (codes "SubgroupBallot", (1, names.Expression) ∷ (2, names.Expression) ∷ []) ∷
    (codes "SubgroupCollectiveOperation", (3, names.Expression) ∷ (4, names.Expression) ∷ []) ∷
    (codes "SubgroupGather", (1, names.Expression) ∷ (2, names.Expression) ∷ (3, names.Expression) ∷ []) ∷
    (codes "CooperativeStore", (1, names.Expression) ∷ (2, names.Expression) ∷ (3, names.Expression) ∷ []) ∷
    (codes "RayPipelineFunction", (1, names.Expression) ∷ []) ∷
    (codes "Emit", []) ∷
    []

-- the words of each word set, separated by spaces
abbrev pub sets : List (List ℕ × List ℕ)
sets =
    (codes "flag", codes "EXPRESSIONS BLOCKS CONTROL_FLOW_UNIFORMITY STRUCT_LAYOUTS CONSTANTS BINDINGS strict-scope") ∷
    (codes "capability", codes "IMMEDIATES FLOAT64 SHADER_FLOAT16 SHADER_INT16 SHADER_INT64 PRIMITIVE_INDEX BUFFER_BINDING_ARRAY STORAGE_BUFFER_BINDING_ARRAY TEXTURE_AND_SAMPLER_BINDING_ARRAY STORAGE_TEXTURE_BINDING_ARRAY ACCELERATION_STRUCTURE_BINDING_ARRAY STORAGE_TEXTURE_16BIT_NORM_FORMATS CUBE_ARRAY_TEXTURES CLIP_DISTANCES CULL_DISTANCE MULTIVIEW EARLY_DEPTH_TEST MULTISAMPLED_SHADING DUAL_SOURCE_BLENDING SUBGROUP SUBGROUP_BARRIER SHADER_INT64_ATOMIC_MIN_MAX SHADER_INT64_ATOMIC_ALL_OPS SHADER_FLOAT32_ATOMIC TEXTURE_ATOMIC TEXTURE_INT64_ATOMIC TEXTURE_EXTERNAL RAY_QUERY RAY_HIT_VERTEX_POSITION RAY_TRACING_PIPELINE SHADER_BARYCENTRICS MESH_SHADER MESH_SHADER_POINT_TOPOLOGY PER_VERTEX DRAW_INDEX COOPERATIVE_MATRIX MEMORY_DECORATION_COHERENT MEMORY_DECORATION_VOLATILE") ∷
    (codes "stage of a set", codes "VERTEX FRAGMENT COMPUTE MESH TASK RAY_GENERATION ANY_HIT CLOSEST_HIT MISS") ∷
    (codes "stage of an entry point", codes "Vertex Fragment Compute Mesh Task RayGeneration AnyHit ClosestHit Miss") ∷
    (codes "subgroup operation of a set", codes "BASIC VOTE ARITHMETIC BALLOT SHUFFLE SHUFFLE_RELATIVE QUAD") ∷
    (codes "scalar", codes "bool i16 u16 i32 u32 i64 u64 f16 f32 f64 aint afloat") ∷
    (codes "space", codes "Function Private WorkGroup Uniform Handle Immediate TaskPayload RayPayload IncomingRayPayload") ∷
    (codes "access", codes "LOAD STORE ATOMIC") ∷
    (codes "dimension", codes "D1 D2 D3 Cube") ∷
    (codes "kind", codes "Sint Uint Float Bool AbstractInt AbstractFloat") ∷
    (codes "format", codes "R8Unorm R8Snorm R8Uint R8Sint Rg8Unorm Rg8Snorm Rg8Uint Rg8Sint Rgba8Unorm Rgba8Snorm Rgba8Uint Rgba8Sint R16Unorm R16Snorm R16Uint R16Sint R16Float Rg16Unorm Rg16Snorm Rg16Uint Rg16Sint Rg16Float Rgba16Unorm Rgba16Snorm Rgba16Uint Rgba16Sint Rgba16Float R32Uint R32Sint R32Float Rg32Uint Rg32Sint Rg32Float Rgba32Uint Rgba32Sint Rgba32Float Bgra8Unorm Rgb10a2Uint Rgb10a2Unorm Rg11b10Ufloat R64Uint") ∷
    (codes "role", codes "A B C") ∷
    (codes "built-in", codes "BaseInstance BaseVertex VertexIndex InstanceIndex DrawIndex ClipDistances CullDistance PointSize PointCoord ViewIndex FragDepth FrontFacing PrimitiveIndex SampleIndex SampleMask LocalInvocationIndex NumSubgroups SubgroupId GlobalInvocationId LocalInvocationId WorkGroupId WorkGroupSize NumWorkGroups SubgroupSize SubgroupInvocationId CullPrimitive PointIndex LineIndices TriangleIndices MeshTaskSize RayInvocationId NumRayInvocations InstanceCustomData GeometryIndex HitKind WorldRayOrigin WorldRayDirection RayTmin RayTCurrentMax ObjectRayOrigin ObjectRayDirection ObjectToWorld WorldToObject VertexCount PrimitiveCount Vertices Primitives") ∷
    (codes "interpolation", codes "Perspective Linear Flat PerVertex") ∷
    (codes "sampling", codes "Center Centroid Sample First Either") ∷
    (codes "operator of one value", codes "Negate LogicalNot BitwiseNot") ∷
    (codes "operator of two values", codes "Add Subtract Multiply Divide Modulo Equal NotEqual Less LessEqual Greater GreaterEqual And ExclusiveOr InclusiveOr LogicalAnd LogicalOr ShiftLeft ShiftRight") ∷
    (codes "axis", codes "X Y Width") ∷
    (codes "control", codes "Coarse Fine None") ∷
    (codes "question", codes "All Any IsNan IsInf") ∷
    (codes "math function", codes "Abs Min Max Clamp Sign Saturate Cos Cosh Sin Sinh Tan Tanh Acos Asin Atan Asinh Acosh Atanh Radians Degrees Ceil Floor Round Fract Trunc Exp Exp2 Log Log2 Sqrt InverseSqrt Atan2 Pow Step Fma SmoothStep Mix QuantizeToF16 CountTrailingZeros CountLeadingZeros CountOneBits ReverseBits FirstTrailingBit FirstLeadingBit ExtractBits InsertBits Dot Normalize Reflect FaceForward Refract Cross Length Distance Modf Frexp Ldexp Outer Transpose Determinant Inverse Pack4x8snorm Pack4x8unorm Pack2x16snorm Pack2x16unorm Pack2x16float Pack4xI8 Pack4xI8Clamp Pack4xU8 Pack4xU8Clamp Unpack4x8snorm Unpack4x8unorm Unpack2x16snorm Unpack2x16unorm Unpack2x16float Unpack4xI8 Unpack4xU8 Dot4I8Packed Dot4U8Packed") ∷
    (codes "barrier", codes "STORAGE WORK_GROUP SUB_GROUP TEXTURE") ∷
    (codes "operation", codes "All Any Add Mul Min Max And Or Xor") ∷
    (codes "collective", codes "Reduce InclusiveScan ExclusiveScan") ∷
    (codes "direction", codes "X Y Diagonal") ∷
    (codes "decoration", codes "COHERENT VOLATILE") ∷
    (codes "severity", codes "Off Info Warning Error") ∷
    (codes "depth", codes "GreaterEqual LessEqual Unchanged") ∷
    (codes "topology", codes "Points Lines Triangles") ∷
    (codes "type", codes "Scalar Vector Matrix CooperativeMatrix Atomic Pointer ValuePointer Array Struct Image Sampler AccelerationStructure RayQuery BindingArray") ∷
    (codes "expression", codes "Literal Constant Override ZeroValue Compose Access AccessIndex Splat Swizzle FunctionArgument GlobalVariable LocalVariable Load ImageSample ImageLoad ImageQuery Unary Binary Select Derivative Relational Math As CallResult AtomicResult WorkGroupUniformLoadResult ArrayLength RayQueryVertexPositions RayQueryProceedResult RayQueryGetIntersection SubgroupBallotResult SubgroupOperationResult CooperativeLoad CooperativeMultiplyAdd") ∷
    (codes "statement", codes "Emit Block If Switch Loop Break Continue Return Kill ControlBarrier MemoryBarrier Store ImageStore Atomic ImageAtomic WorkGroupUniformLoad Call RayQuery SubgroupBallot SubgroupCollectiveOperation SubgroupGather CooperativeStore RayPipelineFunction") ∷
    []

-- the elements of an array that have names
abbrev pub row_parts : Rows → List (List ℕ × Part)
row_parts rows.Document = (codes "version", Plain) ∷ (codes "flags", Plain) ∷ (codes "capabilities", Plain) ∷ (codes "subgroups", Row rows.Subgroups) ∷ (codes "returns", Plain) ∷ (codes "types", ListOf rows.«Type») ∷ (codes "special types", Row rows.SpecialTypes) ∷ (codes "diagnostics", Row rows.Diagnostics) ∷ (codes "constants", ListOf rows.Constant) ∷ (codes "overrides", ListOf rows.Override) ∷ (codes "global expressions", Plain) ∷ (codes "globals", ListOf rows.Global) ∷ (codes "functions", ListOf rows.Function) ∷ (codes "entry points", ListOf rows.EntryPoint) ∷ []
row_parts rows.Subgroups = (codes "stages", Plain) ∷ (codes "operations", Plain) ∷ []
row_parts rows.Diagnostics = (codes "filters", ListOf rows.Filter) ∷ (codes "filter", Plain) ∷ []
row_parts rows.Filter = (codes "severity", Plain) ∷ (codes "rule", Plain) ∷ (codes "parent", Plain) ∷ []
row_parts rows.«Type» = (codes "name", Plain) ∷ (codes "inner", Plain) ∷ []
row_parts rows.SpecialTypes = (codes "ray descriptor", Plain) ∷ (codes "ray intersection", Plain) ∷ (codes "ray vertex return", Plain) ∷ (codes "predeclared", Plain) ∷ []
row_parts rows.Constant = (codes "name", Plain) ∷ (codes "type", Plain) ∷ (codes "value", Plain) ∷ []
row_parts rows.Override = (codes "name", Plain) ∷ (codes "number", Plain) ∷ (codes "type", Plain) ∷ (codes "value", Plain) ∷ []
row_parts rows.Global = (codes "name", Plain) ∷ (codes "space", Plain) ∷ (codes "resource", Row rows.Resource) ∷ (codes "type", Plain) ∷ (codes "value", Plain) ∷ (codes "decorations", Plain) ∷ []
row_parts rows.Resource = (codes "group", Plain) ∷ (codes "binding", Plain) ∷ []
row_parts rows.Function = (codes "name", Plain) ∷ (codes "arguments", ListOf rows.Argument) ∷ (codes "result", Row rows.Output) ∷ (codes "locals", ListOf rows.Local) ∷ (codes "expressions", Plain) ∷ (codes "body", Plain) ∷ (codes "filter", Plain) ∷ []
row_parts rows.Argument = (codes "name", Plain) ∷ (codes "type", Plain) ∷ (codes "binding", Plain) ∷ []
row_parts rows.Output = (codes "type", Plain) ∷ (codes "binding", Plain) ∷ []
row_parts rows.Local = (codes "name", Plain) ∷ (codes "type", Plain) ∷ (codes "value", Plain) ∷ []
row_parts rows.EntryPoint = (codes "stage", Plain) ∷ (codes "name", Plain) ∷ (codes "early depth test", Plain) ∷ (codes "workgroup size", Row rows.WorkgroupSize) ∷ (codes "mesh", Row rows.Mesh) ∷ (codes "payload", Plain) ∷ (codes "function", Row rows.Function) ∷ []
row_parts rows.WorkgroupSize = (codes "x", Plain) ∷ (codes "y", Plain) ∷ (codes "z", Plain) ∷ []
row_parts rows.Mesh = (codes "topology", Plain) ∷ (codes "most vertices", Plain) ∷ (codes "most vertices override", Plain) ∷ (codes "most primitives", Plain) ∷ (codes "most primitives override", Plain) ∷ (codes "vertex type", Plain) ∷ (codes "primitive type", Plain) ∷ (codes "output", Plain) ∷ []

abbrev name_or_none : {A : Type 0} → Option (List ℕ × A) → Option (List ℕ)
name_or_none None = None
name_or_none (Some e) = Some e.0

abbrev pub part_or_plain : Option (List ℕ × Part) → Part
part_or_plain None = Plain
part_or_plain (Some e) = e.1

-- the name of the element at an index, if it has one
abbrev pub name_inside : Part → ℕ → Option (List ℕ)
name_inside Plain i = None
name_inside (ListOf r) i = None
name_inside (Row r) i = name_or_none (slice_get (row_parts r) i)

-- the kind of the element
abbrev pub part_inside : Part → ℕ → Part
part_inside Plain i = Plain
part_inside (ListOf r) i = Row r
part_inside (Row r) i = part_or_plain (slice_get (row_parts r) i)
