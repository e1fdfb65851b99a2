-- The rules of an expression that is no composition, besides its type: a row for each kind.
use Rattle.std.specs.Prelude.{slice_get}
use Rattle.ir_types.specs.declared.expressions.Expression.{Expression}
use Rattle.ir_types.specs.declared.expressions.Expression.TheVariants as x
use Rattle.spec_statements.specs.judged.Access.{AccessOK, AccessIndexOK}
use Rattle.spec_statements.specs.judged.Swizzles.{SwizzleOK}
use Rattle.spec_statements.specs.judged.Conversions.{AsOK}
use Rattle.spec_statements.specs.judged.CooperativeMatrices.{CooperativeLoadOK, MultiplyAddOK}
use Rattle.spec_statements.specs.judged.Derivatives.{DerivativeOK}
use Rattle.spec_statements.specs.judged.ImageLoads.{ImageLoadOK, ImageQueryOK}
use Rattle.spec_statements.specs.judged.ImageSamples.{ImageSampleOK}
use Rattle.spec_statements.specs.judged.Literals.{ZeroOK}
use Rattle.spec_expressions.specs.judged.LiteralScalars.{LiteralOK}
use Rattle.spec_statements.specs.judged.Loads.{LoadOK, ArrayLengthOK}
use Rattle.spec_statements.specs.judged.Operators.{UnaryOK, BinaryOK}
use Rattle.spec_statements.specs.judged.ExpressionRayQueries.{VertexPositionsOK, IntersectionOK}
use Rattle.spec_statements.specs.judged.ExpressionResults.{AtomicResultTypeOK, UniformLoadOK}
use Rattle.spec_statements.specs.judged.Scene.{Scene, form_among}
use Rattle.spec_statements.specs.judged.Selections.{SelectOK, RelationalOK}

-- a composition has its own rule, so this row is left out
abbrev pub CheckOf : Scene → Expression → Type 0
CheckOf s (x.Literal value) = LiteralOK s.capabilities value
CheckOf s (x.Constant constant) = Unit {0}
CheckOf s (x.Override override) = Unit {0}
CheckOf s (x.ZeroValue type) = ZeroOK s.types type
CheckOf s (x.Compose type components) = Unit {0}
CheckOf s (x.Access base index) = AccessOK s.types (form_among s.forms base) (form_among s.forms index) (slice_get s.expressions index)
CheckOf s (x.AccessIndex base index) = AccessIndexOK s.types (form_among s.forms base) index
CheckOf s (x.Splat size value) = Unit {0}
CheckOf s (x.Swizzle size vector pattern) = SwizzleOK size pattern (form_among s.forms vector)
CheckOf s (x.FunctionArgument number) = Unit {0}
CheckOf s (x.GlobalVariable global) = Unit {0}
CheckOf s (x.LocalVariable local) = Unit {0}
CheckOf s (x.Load pointer) = LoadOK s.types (form_among s.forms pointer)
CheckOf s (x.ImageSample image sampler gather coordinate array_index offset level depth_ref clamp_to_edge) = ImageSampleOK s.expressions s.forms (form_among s.forms image) (record {
  sampler = sampler;
  gather = gather;
  coordinate = coordinate;
  array_index = array_index;
  offset = offset;
  level = level;
  depth_ref = depth_ref;
  clamp_to_edge = clamp_to_edge;
})
CheckOf s (x.ImageLoad image coordinate array_index sample level) = ImageLoadOK s.forms (form_among s.forms image) coordinate array_index sample level
CheckOf s (x.ImageQuery image query) = ImageQueryOK s.forms (form_among s.forms image) query
CheckOf s (x.Unary op expr) = UnaryOK op (form_among s.forms expr)
CheckOf s (x.Binary op left right) = BinaryOK op (form_among s.forms left) (form_among s.forms right)
CheckOf s (x.Select condition accept reject) = SelectOK (form_among s.forms condition) (form_among s.forms accept) (form_among s.forms reject)
CheckOf s (x.Derivative axis ctrl expr) = DerivativeOK (form_among s.forms expr)
CheckOf s (x.Relational fun argument) = RelationalOK fun (form_among s.forms argument)
CheckOf s (x.Math fun arg arg1 arg2 arg3) = Unit {0}
CheckOf s (x.As expr kind convert) = AsOK s.capabilities kind convert (form_among s.forms expr)
CheckOf s (x.CallResult function) = Unit {0}
CheckOf s (x.AtomicResult type comparison) = AtomicResultTypeOK s.capabilities s.types type comparison
CheckOf s (x.WorkGroupUniformLoadResult type) = UniformLoadOK s.types type
CheckOf s (x.ArrayLength array) = ArrayLengthOK s.types (form_among s.forms array)
CheckOf s (x.RayQueryVertexPositions query committed) = VertexPositionsOK s.types (form_among s.forms query)
CheckOf s x.RayQueryProceedResult = Unit {0}
CheckOf s (x.RayQueryGetIntersection query committed) = IntersectionOK s.types (form_among s.forms query)
CheckOf s x.SubgroupBallotResult = Unit {0}
CheckOf s (x.SubgroupOperationResult type) = Unit {0}
CheckOf s (x.CooperativeLoad columns rows role block) = CooperativeLoadOK (form_among s.forms block.stride)
CheckOf s (x.CooperativeMultiplyAdd a b c) = MultiplyAddOK (form_among s.forms a) (form_among s.forms b) (form_among s.forms c)
