-- The supported expressions.
use Rattle.std.specs.Prelude.{Option, Some, None}
use Rattle.ir_types.specs.judged.ExpressionPlain.{PlainExpression, compose, plain}
use Rattle.ir_types.specs.declared.expressions.Expression.{Expression}
use Rattle.ir_types.specs.declared.expressions.Expression.TheVariants as x
use Rattle.function_tiny_lower.specs.declared.known.Known.{Known}
use Rattle.function_tiny_lower.specs.declared.known.Known.TheVariants as known

abbrev pub known_in : Expression → Option Known
known_in (x.Literal value) = Some (known.Literal value)
known_in (x.Constant constant) = None
known_in (x.Override override) = None
known_in (x.ZeroValue type) = Some (known.ZeroValue type)
known_in (x.Compose type components) = None
known_in (x.Access base index) = None
known_in (x.AccessIndex base index) = None
known_in (x.Splat size value) = None
known_in (x.Swizzle size vector pattern) = None
known_in (x.FunctionArgument place) = Some (known.FunctionArgument place)
known_in (x.GlobalVariable global) = None
known_in (x.LocalVariable local) = None
known_in (x.Load pointer) = None
known_in (x.ImageSample image sampler gather coordinate array_index offset level depth_ref clamp_to_edge) = None
known_in (x.ImageLoad image coordinate array_index sample level) = None
known_in (x.ImageQuery image query) = None
known_in (x.Unary op expr) = Some (known.Unary op expr)
known_in (x.Binary op left right) = Some (known.Binary op left right)
known_in (x.Select condition accept reject) = Some (known.Select condition accept reject)
known_in (x.Derivative axis ctrl expr) = None
known_in (x.Relational fun argument) = None
known_in (x.Math fun arg arg1 arg2 arg3) = None
known_in (x.As expr kind convert) = None
known_in (x.CallResult function) = Some (known.CallResult function)
known_in (x.AtomicResult type comparison) = None
known_in (x.WorkGroupUniformLoadResult type) = None
known_in (x.ArrayLength array) = None
known_in (x.RayQueryVertexPositions query committed) = None
known_in x.RayQueryProceedResult = None
known_in (x.RayQueryGetIntersection query committed) = None
known_in x.SubgroupBallotResult = None
known_in (x.SubgroupOperationResult type) = None
known_in (x.CooperativeLoad columns rows role block) = None
known_in (x.CooperativeMultiplyAdd a b c) = None

abbrev pub known_of : PlainExpression → Option Known
known_of (compose type components) = None
known_of (plain expression) = known_in expression
