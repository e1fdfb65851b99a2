-- The word tables of a document.
use Rattle.std.specs.Prelude.{ℕ, List, [], ◌∷◌, map}
use Rattle.document_words.specs.Lookup.{◌⇒◌}
use Rattle.ir_kinds.specs.declared.stages.ShaderStage.{ShaderStage}
use Rattle.ir_kinds.specs.declared.stages.ShaderStage.TheVariants as stage
use Rattle.ir_kinds.specs.declared.scalars.ScalarKind.{ScalarKind}
use Rattle.ir_kinds.specs.declared.scalars.ScalarKind.TheVariants.{Sint, Uint, Float, Bool, AbstractInt, AbstractFloat}
use Rattle.ir_kinds.specs.declared.scalars.CooperativeRole.{CooperativeRole}
use Rattle.ir_kinds.specs.declared.scalars.CooperativeRole.TheVariants as role
use Rattle.ir_kinds.specs.declared.images.ImageDimension.{ImageDimension}
use Rattle.ir_kinds.specs.declared.images.ImageDimension.TheVariants as dim
use Rattle.ir_kinds.specs.declared.images.StorageFormat.{StorageFormat}
use Rattle.ir_kinds.specs.declared.images.StorageFormat.TheVariants.{R8Unorm, R8Snorm, R8Uint, R8Sint, R16Uint, R16Sint, R16Float, Rg8Unorm, Rg8Snorm, Rg8Uint, Rg8Sint, R32Uint, R32Sint, R32Float, Rg16Uint, Rg16Sint, Rg16Float, Rgba8Unorm, Rgba8Snorm, Rgba8Uint, Rgba8Sint, Bgra8Unorm, Rgb10a2Uint, Rgb10a2Unorm, Rg11b10Ufloat, R64Uint, Rg32Uint, Rg32Sint, Rg32Float, Rgba16Uint, Rgba16Sint, Rgba16Float, Rgba32Uint, Rgba32Sint, Rgba32Float, R16Unorm, R16Snorm, Rg16Unorm, Rg16Snorm, Rgba16Unorm, Rgba16Snorm}
use Rattle.ir_kinds.specs.declared.bindings.BuiltIn.{BuiltIn}
use Rattle.ir_kinds.specs.declared.bindings.BuiltIn.TheVariants.{PrimitiveIndex, ViewIndex, BaseInstance, BaseVertex, ClipDistances, CullDistance, InstanceIndex, PointSize, VertexIndex, DrawIndex, FragDepth, PointCoord, FrontFacing, SampleIndex, SampleMask, GlobalInvocationId, LocalInvocationId, LocalInvocationIndex, WorkGroupId, WorkGroupSize, NumWorkGroups, NumSubgroups, SubgroupId, SubgroupSize, SubgroupInvocationId, MeshTaskSize, CullPrimitive, PointIndex, LineIndices, TriangleIndices, VertexCount, Vertices, PrimitiveCount, Primitives, RayInvocationId, NumRayInvocations, InstanceCustomData, GeometryIndex, WorldRayOrigin, WorldRayDirection, ObjectRayOrigin, ObjectRayDirection, RayTmin, RayTCurrentMax, ObjectToWorld, WorldToObject, HitKind}
use Rattle.ir_kinds.specs.declared.bindings.Interpolation.{Interpolation}
use Rattle.ir_kinds.specs.declared.bindings.Interpolation.TheVariants.{Perspective, Linear, Flat, PerVertex}
use Rattle.ir_kinds.specs.declared.bindings.Sampling.{Sampling}
use Rattle.ir_kinds.specs.declared.bindings.Sampling.TheVariants.{Center, Centroid, Sample, First, Either}
use Rattle.ir_kinds.specs.declared.diagnostics.Severity.{Severity}
use Rattle.ir_kinds.specs.declared.diagnostics.Severity.TheVariants as severity
use Rattle.ir_kinds.specs.declared.diagnostics.StandardFilterableTriggeringRule.{StandardFilterableTriggeringRule}
use Rattle.ir_kinds.specs.declared.diagnostics.StandardFilterableTriggeringRule.TheVariants as rule
use Rattle.ir_kinds.specs.declared.stages.ConservativeDepth.{ConservativeDepth}
use Rattle.ir_kinds.specs.declared.stages.ConservativeDepth.TheVariants as depth
use Rattle.ir_kinds.specs.declared.stages.MeshOutputTopology.{MeshOutputTopology}
use Rattle.ir_kinds.specs.declared.stages.MeshOutputTopology.TheVariants as topology
use Rattle.ir_kinds.specs.declared.scalars.SwizzleComponent.{SwizzleComponent}
use Rattle.ir_kinds.specs.declared.scalars.SwizzleComponent.TheVariants as letter
use Rattle.ir_kinds.specs.declared.operators.UnaryOperator.{UnaryOperator}
use Rattle.ir_kinds.specs.declared.operators.UnaryOperator.TheVariants as unary
use Rattle.ir_kinds.specs.declared.operators.BinaryOperator.{BinaryOperator}
use Rattle.ir_kinds.specs.declared.operators.BinaryOperator.TheVariants.{Add, Subtract, Multiply, Divide, Modulo, Equal, NotEqual, Less, LessEqual, Greater, GreaterEqual, And, ExclusiveOr, InclusiveOr, LogicalAnd, LogicalOr, ShiftLeft, ShiftRight}
use Rattle.ir_kinds.specs.declared.operators.RelationalFunction.{RelationalFunction}
use Rattle.ir_kinds.specs.declared.operators.RelationalFunction.TheVariants as relational
use Rattle.ir_kinds.specs.declared.operators.DerivativeAxis.{DerivativeAxis}
use Rattle.ir_kinds.specs.declared.operators.DerivativeAxis.TheVariants as axis
use Rattle.ir_kinds.specs.declared.operators.DerivativeControl.{DerivativeControl}
use Rattle.ir_kinds.specs.declared.operators.DerivativeControl.TheVariants as ctrl
use Rattle.ir_kinds.specs.declared.maths.MathFunction.{MathFunction}
use Rattle.ir_kinds.specs.declared.maths.MathFunction.TheVariants.{Abs, Min, Max, Clamp, Saturate, Cos, Cosh, Sin, Sinh, Tan, Tanh, Acos, Asin, Atan, Atan2, Asinh, Acosh, Atanh, Radians, Degrees, Ceil, Floor, Round, Fract, Trunc, Modf, Frexp, Ldexp, Exp, Exp2, Log, Log2, Pow, Dot, Dot4I8Packed, Dot4U8Packed, Outer, Cross, Distance, Length, Normalize, FaceForward, Reflect, Refract, Sign, Fma, Mix, Step, SmoothStep, Sqrt, InverseSqrt, Inverse, Transpose, Determinant, QuantizeToF16, CountTrailingZeros, CountLeadingZeros, CountOneBits, ReverseBits, ExtractBits, InsertBits, FirstTrailingBit, FirstLeadingBit, Pack4x8snorm, Pack4x8unorm, Pack2x16snorm, Pack2x16unorm, Pack2x16float, Pack4xI8, Pack4xU8, Pack4xI8Clamp, Pack4xU8Clamp, Unpack4x8snorm, Unpack4x8unorm, Unpack2x16snorm, Unpack2x16unorm, Unpack2x16float, Unpack4xI8, Unpack4xU8}
use Rattle.ir_kinds.specs.declared.subgroups.SubgroupOperation.{SubgroupOperation}
use Rattle.ir_kinds.specs.declared.subgroups.SubgroupOperation.TheVariants as op
use Rattle.ir_kinds.specs.declared.subgroups.CollectiveOperation.{CollectiveOperation}
use Rattle.ir_kinds.specs.declared.subgroups.CollectiveOperation.TheVariants as collective
use Rattle.ir_kinds.specs.declared.subgroups.Direction.{Direction}
use Rattle.ir_kinds.specs.declared.subgroups.Direction.TheVariants as direction
use Rattle.ir_kinds.specs.declared.scalars.Scalar.{Scalar}
use Rattle.ir_kinds.specs.declared.spaces.AddressSpace.{AddressSpace}
use Rattle.ir_kinds.specs.declared.spaces.AddressSpace.TheVariants as space
use Rattle.ir_flags.specs.declared.memory.StorageAccess.{StorageAccess}
use Rattle.ir_flags.specs.declared.memory.Barrier.{Barrier}
use Rattle.ir_flags.specs.declared.memory.MemoryDecorations.{MemoryDecorations}
use Rattle.ir_flags.specs.declared.settings.ValidationFlags.{ValidationFlags}
use Rattle.ir_flags.specs.declared.settings.Capabilities.{Capabilities}
use Rattle.ir_flags.specs.declared.stages.ShaderStages.{ShaderStages}
use Rattle.ir_flags.specs.declared.stages.SubgroupOperationSet.{SubgroupOperationSet}
use Rattle.ir_flags.specs.Words as bits

-- the kinds of scalars
abbrev pub scalar_kinds : List (List ℕ × ScalarKind)
scalar_kinds = "Sint" ⇒ Sint ∷ "Uint" ⇒ Uint ∷ "Float" ⇒ Float ∷ "Bool" ⇒ Bool ∷ "AbstractInt" ⇒ AbstractInt ∷ "AbstractFloat" ⇒ AbstractFloat ∷ []

-- the roles of cooperative matrices
abbrev pub cooperative_roles : List (List ℕ × CooperativeRole)
cooperative_roles = "A" ⇒ role.A ∷ "B" ⇒ role.B ∷ "C" ⇒ role.C ∷ []

-- the dimensions of images
abbrev pub image_dimensions : List (List ℕ × ImageDimension)
image_dimensions = "D1" ⇒ dim.D1 ∷ "D2" ⇒ dim.D2 ∷ "D3" ⇒ dim.D3 ∷ "Cube" ⇒ dim.Cube ∷ []

-- the storage formats
abbrev pub storage_formats : List (List ℕ × StorageFormat)
storage_formats = "R8Unorm" ⇒ R8Unorm ∷ "R8Snorm" ⇒ R8Snorm ∷ "R8Uint" ⇒ R8Uint ∷ "R8Sint" ⇒ R8Sint ∷ "R16Uint" ⇒ R16Uint ∷ "R16Sint" ⇒ R16Sint ∷
    "R16Float" ⇒ R16Float ∷ "Rg8Unorm" ⇒ Rg8Unorm ∷ "Rg8Snorm" ⇒ Rg8Snorm ∷ "Rg8Uint" ⇒ Rg8Uint ∷ "Rg8Sint" ⇒ Rg8Sint ∷ "R32Uint" ⇒ R32Uint ∷
    "R32Sint" ⇒ R32Sint ∷ "R32Float" ⇒ R32Float ∷ "Rg16Uint" ⇒ Rg16Uint ∷ "Rg16Sint" ⇒ Rg16Sint ∷ "Rg16Float" ⇒ Rg16Float ∷ "Rgba8Unorm" ⇒ Rgba8Unorm ∷
    "Rgba8Snorm" ⇒ Rgba8Snorm ∷ "Rgba8Uint" ⇒ Rgba8Uint ∷ "Rgba8Sint" ⇒ Rgba8Sint ∷ "Bgra8Unorm" ⇒ Bgra8Unorm ∷ "Rgb10a2Uint" ⇒ Rgb10a2Uint ∷
    "Rgb10a2Unorm" ⇒ Rgb10a2Unorm ∷ "Rg11b10Ufloat" ⇒ Rg11b10Ufloat ∷ "R64Uint" ⇒ R64Uint ∷ "Rg32Uint" ⇒ Rg32Uint ∷ "Rg32Sint" ⇒ Rg32Sint ∷
    "Rg32Float" ⇒ Rg32Float ∷ "Rgba16Uint" ⇒ Rgba16Uint ∷ "Rgba16Sint" ⇒ Rgba16Sint ∷ "Rgba16Float" ⇒ Rgba16Float ∷ "Rgba32Uint" ⇒ Rgba32Uint ∷
    "Rgba32Sint" ⇒ Rgba32Sint ∷ "Rgba32Float" ⇒ Rgba32Float ∷ "R16Unorm" ⇒ R16Unorm ∷ "R16Snorm" ⇒ R16Snorm ∷ "Rg16Unorm" ⇒ Rg16Unorm ∷
    "Rg16Snorm" ⇒ Rg16Snorm ∷ "Rgba16Unorm" ⇒ Rgba16Unorm ∷ "Rgba16Snorm" ⇒ Rgba16Snorm ∷ []

-- the built-ins that are a word alone
abbrev pub built_ins : List (List ℕ × BuiltIn)
built_ins = "PrimitiveIndex" ⇒ PrimitiveIndex ∷ "ViewIndex" ⇒ ViewIndex ∷ "BaseInstance" ⇒ BaseInstance ∷ "BaseVertex" ⇒ BaseVertex ∷
    "ClipDistances" ⇒ ClipDistances ∷ "CullDistance" ⇒ CullDistance ∷ "InstanceIndex" ⇒ InstanceIndex ∷ "PointSize" ⇒ PointSize ∷
    "VertexIndex" ⇒ VertexIndex ∷ "DrawIndex" ⇒ DrawIndex ∷ "FragDepth" ⇒ FragDepth ∷ "PointCoord" ⇒ PointCoord ∷ "FrontFacing" ⇒ FrontFacing ∷
    "SampleIndex" ⇒ SampleIndex ∷ "SampleMask" ⇒ SampleMask ∷ "GlobalInvocationId" ⇒ GlobalInvocationId ∷ "LocalInvocationId" ⇒ LocalInvocationId ∷
    "LocalInvocationIndex" ⇒ LocalInvocationIndex ∷ "WorkGroupId" ⇒ WorkGroupId ∷ "WorkGroupSize" ⇒ WorkGroupSize ∷ "NumWorkGroups" ⇒ NumWorkGroups ∷
    "NumSubgroups" ⇒ NumSubgroups ∷ "SubgroupId" ⇒ SubgroupId ∷ "SubgroupSize" ⇒ SubgroupSize ∷ "SubgroupInvocationId" ⇒ SubgroupInvocationId ∷
    "MeshTaskSize" ⇒ MeshTaskSize ∷ "CullPrimitive" ⇒ CullPrimitive ∷ "PointIndex" ⇒ PointIndex ∷ "LineIndices" ⇒ LineIndices ∷
    "TriangleIndices" ⇒ TriangleIndices ∷ "VertexCount" ⇒ VertexCount ∷ "Vertices" ⇒ Vertices ∷ "PrimitiveCount" ⇒ PrimitiveCount ∷
    "Primitives" ⇒ Primitives ∷ "RayInvocationId" ⇒ RayInvocationId ∷ "NumRayInvocations" ⇒ NumRayInvocations ∷ "InstanceCustomData" ⇒ InstanceCustomData ∷
    "GeometryIndex" ⇒ GeometryIndex ∷ "WorldRayOrigin" ⇒ WorldRayOrigin ∷ "WorldRayDirection" ⇒ WorldRayDirection ∷ "ObjectRayOrigin" ⇒ ObjectRayOrigin ∷
    "ObjectRayDirection" ⇒ ObjectRayDirection ∷ "RayTmin" ⇒ RayTmin ∷ "RayTCurrentMax" ⇒ RayTCurrentMax ∷ "ObjectToWorld" ⇒ ObjectToWorld ∷
    "WorldToObject" ⇒ WorldToObject ∷ "HitKind" ⇒ HitKind ∷ []

-- the interpolations
abbrev pub interpolations : List (List ℕ × Interpolation)
interpolations = "Perspective" ⇒ Perspective ∷ "Linear" ⇒ Linear ∷ "Flat" ⇒ Flat ∷ "PerVertex" ⇒ PerVertex ∷ []

-- the samplings
abbrev pub samplings : List (List ℕ × Sampling)
samplings = "Center" ⇒ Center ∷ "Centroid" ⇒ Centroid ∷ "Sample" ⇒ Sample ∷ "First" ⇒ First ∷ "Either" ⇒ Either ∷ []

-- the severities
abbrev pub severities : List (List ℕ × Severity)
severities = "Off" ⇒ severity.Off ∷ "Info" ⇒ severity.Info ∷ "Warning" ⇒ severity.Warning ∷ "Error" ⇒ severity.Error ∷ []

-- the standard triggering rules
abbrev pub standard_rules : List (List ℕ × StandardFilterableTriggeringRule)
standard_rules = "DerivativeUniformity" ⇒ rule.DerivativeUniformity ∷ []

-- the conservative depths
abbrev pub conservative_depths : List (List ℕ × ConservativeDepth)
conservative_depths = "GreaterEqual" ⇒ depth.GreaterEqual ∷ "LessEqual" ⇒ depth.LessEqual ∷ "Unchanged" ⇒ depth.Unchanged ∷ []

-- the mesh topologies
abbrev pub topologies : List (List ℕ × MeshOutputTopology)
topologies = "Points" ⇒ topology.Points ∷ "Lines" ⇒ topology.Lines ∷ "Triangles" ⇒ topology.Triangles ∷ []

-- the swizzle components
abbrev pub letters : List (List ℕ × SwizzleComponent)
letters = "x" ⇒ letter.X ∷ "y" ⇒ letter.Y ∷ "z" ⇒ letter.Z ∷ "w" ⇒ letter.W ∷ []

-- the unary operators
abbrev pub unary_operators : List (List ℕ × UnaryOperator)
unary_operators = "Negate" ⇒ unary.Negate ∷ "LogicalNot" ⇒ unary.LogicalNot ∷ "BitwiseNot" ⇒ unary.BitwiseNot ∷ []

-- the binary operators
abbrev pub binary_operators : List (List ℕ × BinaryOperator)
binary_operators = "Add" ⇒ Add ∷ "Subtract" ⇒ Subtract ∷ "Multiply" ⇒ Multiply ∷ "Divide" ⇒ Divide ∷ "Modulo" ⇒ Modulo ∷ "Equal" ⇒ Equal ∷
    "NotEqual" ⇒ NotEqual ∷ "Less" ⇒ Less ∷ "LessEqual" ⇒ LessEqual ∷ "Greater" ⇒ Greater ∷ "GreaterEqual" ⇒ GreaterEqual ∷ "And" ⇒ And ∷
    "ExclusiveOr" ⇒ ExclusiveOr ∷ "InclusiveOr" ⇒ InclusiveOr ∷ "LogicalAnd" ⇒ LogicalAnd ∷ "LogicalOr" ⇒ LogicalOr ∷ "ShiftLeft" ⇒ ShiftLeft ∷
    "ShiftRight" ⇒ ShiftRight ∷ []

-- the relational functions
abbrev pub relational_functions : List (List ℕ × RelationalFunction)
relational_functions = "All" ⇒ relational.All ∷ "Any" ⇒ relational.Any ∷ "IsNan" ⇒ relational.IsNan ∷ "IsInf" ⇒ relational.IsInf ∷ []

-- the axes of derivatives
abbrev pub derivative_axes : List (List ℕ × DerivativeAxis)
derivative_axes = "X" ⇒ axis.X ∷ "Y" ⇒ axis.Y ∷ "Width" ⇒ axis.Width ∷ []

-- the precisions of derivatives
abbrev pub derivative_controls : List (List ℕ × DerivativeControl)
derivative_controls = "Coarse" ⇒ ctrl.Coarse ∷ "Fine" ⇒ ctrl.Fine ∷ "None" ⇒ ctrl.None ∷ []

-- the math functions
abbrev pub math_functions : List (List ℕ × MathFunction)
math_functions = "Abs" ⇒ Abs ∷ "Min" ⇒ Min ∷ "Max" ⇒ Max ∷ "Clamp" ⇒ Clamp ∷ "Saturate" ⇒ Saturate ∷ "Cos" ⇒ Cos ∷ "Cosh" ⇒ Cosh ∷ "Sin" ⇒ Sin ∷
    "Sinh" ⇒ Sinh ∷ "Tan" ⇒ Tan ∷ "Tanh" ⇒ Tanh ∷ "Acos" ⇒ Acos ∷ "Asin" ⇒ Asin ∷ "Atan" ⇒ Atan ∷ "Atan2" ⇒ Atan2 ∷ "Asinh" ⇒ Asinh ∷ "Acosh" ⇒ Acosh ∷
    "Atanh" ⇒ Atanh ∷ "Radians" ⇒ Radians ∷ "Degrees" ⇒ Degrees ∷ "Ceil" ⇒ Ceil ∷ "Floor" ⇒ Floor ∷ "Round" ⇒ Round ∷ "Fract" ⇒ Fract ∷ "Trunc" ⇒ Trunc ∷
    "Modf" ⇒ Modf ∷ "Frexp" ⇒ Frexp ∷ "Ldexp" ⇒ Ldexp ∷ "Exp" ⇒ Exp ∷ "Exp2" ⇒ Exp2 ∷ "Log" ⇒ Log ∷ "Log2" ⇒ Log2 ∷ "Pow" ⇒ Pow ∷ "Dot" ⇒ Dot ∷
    "Dot4I8Packed" ⇒ Dot4I8Packed ∷ "Dot4U8Packed" ⇒ Dot4U8Packed ∷ "Outer" ⇒ Outer ∷ "Cross" ⇒ Cross ∷ "Distance" ⇒ Distance ∷ "Length" ⇒ Length ∷
    "Normalize" ⇒ Normalize ∷ "FaceForward" ⇒ FaceForward ∷ "Reflect" ⇒ Reflect ∷ "Refract" ⇒ Refract ∷ "Sign" ⇒ Sign ∷ "Fma" ⇒ Fma ∷ "Mix" ⇒ Mix ∷
    "Step" ⇒ Step ∷ "SmoothStep" ⇒ SmoothStep ∷ "Sqrt" ⇒ Sqrt ∷ "InverseSqrt" ⇒ InverseSqrt ∷ "Inverse" ⇒ Inverse ∷ "Transpose" ⇒ Transpose ∷
    "Determinant" ⇒ Determinant ∷ "QuantizeToF16" ⇒ QuantizeToF16 ∷ "CountTrailingZeros" ⇒ CountTrailingZeros ∷ "CountLeadingZeros" ⇒ CountLeadingZeros ∷
    "CountOneBits" ⇒ CountOneBits ∷ "ReverseBits" ⇒ ReverseBits ∷ "ExtractBits" ⇒ ExtractBits ∷ "InsertBits" ⇒ InsertBits ∷
    "FirstTrailingBit" ⇒ FirstTrailingBit ∷ "FirstLeadingBit" ⇒ FirstLeadingBit ∷ "Pack4x8snorm" ⇒ Pack4x8snorm ∷ "Pack4x8unorm" ⇒ Pack4x8unorm ∷
    "Pack2x16snorm" ⇒ Pack2x16snorm ∷ "Pack2x16unorm" ⇒ Pack2x16unorm ∷ "Pack2x16float" ⇒ Pack2x16float ∷ "Pack4xI8" ⇒ Pack4xI8 ∷ "Pack4xU8" ⇒ Pack4xU8 ∷
    "Pack4xI8Clamp" ⇒ Pack4xI8Clamp ∷ "Pack4xU8Clamp" ⇒ Pack4xU8Clamp ∷ "Unpack4x8snorm" ⇒ Unpack4x8snorm ∷ "Unpack4x8unorm" ⇒ Unpack4x8unorm ∷
    "Unpack2x16snorm" ⇒ Unpack2x16snorm ∷ "Unpack2x16unorm" ⇒ Unpack2x16unorm ∷ "Unpack2x16float" ⇒ Unpack2x16float ∷ "Unpack4xI8" ⇒ Unpack4xI8 ∷
    "Unpack4xU8" ⇒ Unpack4xU8 ∷ []

-- the subgroup operations
abbrev pub subgroup_operations : List (List ℕ × SubgroupOperation)
subgroup_operations = "All" ⇒ op.All ∷ "Any" ⇒ op.Any ∷ "Add" ⇒ op.Add ∷ "Mul" ⇒ op.Mul ∷ "Min" ⇒ op.Min ∷ "Max" ⇒ op.Max ∷ "And" ⇒ op.And ∷ "Or" ⇒ op.Or ∷
    "Xor" ⇒ op.Xor ∷ []

-- the collective operations
abbrev pub collective_operations : List (List ℕ × CollectiveOperation)
collective_operations = "Reduce" ⇒ collective.Reduce ∷ "InclusiveScan" ⇒ collective.InclusiveScan ∷ "ExclusiveScan" ⇒ collective.ExclusiveScan ∷ []

-- the directions of quad swaps
abbrev pub directions : List (List ℕ × Direction)
directions = "X" ⇒ direction.X ∷ "Y" ⇒ direction.Y ∷ "Diagonal" ⇒ direction.Diagonal ∷ []

-- the scalar types: a kind and a width in bytes
abbrev pub scalars : List (List ℕ × Scalar)
scalars = "bool" ⇒ record { kind = Bool; width = 1 } ∷ "i16" ⇒ record { kind = Sint; width = 2 } ∷ "u16" ⇒ record { kind = Uint; width = 2 } ∷
    "i32" ⇒ record { kind = Sint; width = 4 } ∷ "u32" ⇒ record { kind = Uint; width = 4 } ∷ "i64" ⇒ record { kind = Sint; width = 8 } ∷
    "u64" ⇒ record { kind = Uint; width = 8 } ∷ "f16" ⇒ record { kind = Float; width = 2 } ∷ "f32" ⇒ record { kind = Float; width = 4 } ∷
    "f64" ⇒ record { kind = Float; width = 8 } ∷ "aint" ⇒ record { kind = AbstractInt; width = 8 } ∷ "afloat" ⇒ record { kind = AbstractFloat; width = 8 } ∷ []

-- the address spaces without operands
abbrev pub spaces : List (List ℕ × AddressSpace)
spaces = "Function" ⇒ space.Function ∷ "Private" ⇒ space.Private ∷ "WorkGroup" ⇒ space.WorkGroup ∷ "Uniform" ⇒ space.Uniform ∷ "Handle" ⇒ space.Handle ∷
    "Immediate" ⇒ space.Immediate ∷ "TaskPayload" ⇒ space.TaskPayload ∷ "RayPayload" ⇒ space.RayPayload ∷ "IncomingRayPayload" ⇒ space.IncomingRayPayload ∷ []

-- the shader stages
abbrev pub entry_stages : List (List ℕ × ShaderStage)
entry_stages = "Vertex" ⇒ stage.Vertex ∷ "Fragment" ⇒ stage.Fragment ∷ "Compute" ⇒ stage.Compute ∷ "Mesh" ⇒ stage.Mesh ∷ "Task" ⇒ stage.Task ∷
    "RayGeneration" ⇒ stage.RayGeneration ∷ "AnyHit" ⇒ stage.AnyHit ∷ "ClosestHit" ⇒ stage.ClosestHit ∷ "Miss" ⇒ stage.Miss ∷ []

-- ---- sets: each word with the set of its one flag, by naga's names (but for the checks)

-- the access modes
abbrev pub storage_access : List (List ℕ × StorageAccess)
storage_access = map (λ row. (row.0, record { 0 = row.1 })) bits.storage_access_bits

-- the barriers
abbrev pub barriers : List (List ℕ × Barrier)
barriers = map (λ row. (row.0, record { 0 = row.1 })) bits.barrier_bits

-- the memory decorations
abbrev pub memory_decorations : List (List ℕ × MemoryDecorations)
memory_decorations = map (λ row. (row.0, record { 0 = row.1 })) bits.memory_decoration_bits

-- the checks: the six by the names of their flags, and the seventh by a word of this format's own
abbrev pub flags : List (List ℕ × ValidationFlags)
flags = "EXPRESSIONS" ⇒ record { 0 = 1 } ∷ "BLOCKS" ⇒ record { 0 = 2 } ∷ "CONTROL_FLOW_UNIFORMITY" ⇒ record { 0 = 4 } ∷ "STRUCT_LAYOUTS" ⇒ record { 0 = 8 } ∷
    "CONSTANTS" ⇒ record { 0 = 16 } ∷ "BINDINGS" ⇒ record { 0 = 32 } ∷ "strict-scope" ⇒ record { 0 = 64 } ∷ []

-- the capabilities
abbrev pub capabilities : List (List ℕ × Capabilities)
capabilities = map (λ row. (row.0, record { 0 = row.1 })) bits.capability_bits

-- the subgroup stages
abbrev pub stages : List (List ℕ × ShaderStages)
stages = map (λ row. (row.0, record { 0 = row.1 })) bits.shader_stage_bits

-- the kinds of subgroup operations
abbrev pub operations : List (List ℕ × SubgroupOperationSet)
operations = map (λ row. (row.0, record { 0 = row.1 })) bits.subgroup_operation_bits
