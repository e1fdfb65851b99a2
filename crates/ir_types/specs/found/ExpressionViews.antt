-- No view of an expression is a `Compose` as it is.
use Rattle.ir_types.specs.declared.expressions.Expression.{Expression}
use Rattle.ir_types.specs.declared.expressions.Expression.TheVariants.{Literal, Constant, Override, ZeroValue, Compose, Access, AccessIndex, Splat, Swizzle, FunctionArgument, GlobalVariable, LocalVariable, Load, ImageSample, ImageLoad, ImageQuery, Unary, Binary, Select, Derivative, Relational, Math, As, CallResult, AtomicResult, WorkGroupUniformLoadResult, ArrayLength, RayQueryVertexPositions, RayQueryProceedResult, RayQueryGetIntersection, SubgroupBallotResult, SubgroupOperationResult, CooperativeLoad, CooperativeMultiplyAdd}
use Rattle.ir_types.specs.judged.ExpressionPlain.{PlainExpression, compose, plain, expression_view}

abbrev pub HoldsNoComposition : PlainExpression → Type 0
HoldsNoComposition (compose type components) = Unit {0}
HoldsNoComposition (plain (Compose type components)) = ⊥
HoldsNoComposition (plain other) = Unit {0}

pub holds_no_composition : (e : Expression) → HoldsNoComposition (expression_view e)
holds_no_composition (Literal value) = tt
holds_no_composition (Constant handle) = tt
holds_no_composition (Override handle) = tt
holds_no_composition (ZeroValue type) = tt
holds_no_composition (Compose type components) = tt
holds_no_composition (Access base index) = tt
holds_no_composition (AccessIndex base index) = tt
holds_no_composition (Splat size value) = tt
holds_no_composition (Swizzle size vector pattern) = tt
holds_no_composition (FunctionArgument index) = tt
holds_no_composition (GlobalVariable handle) = tt
holds_no_composition (LocalVariable handle) = tt
holds_no_composition (Load pointer) = tt
holds_no_composition (ImageSample image sampler gather coordinate array_index offset level depth_ref clamp_to_edge) = tt
holds_no_composition (ImageLoad image coordinate array_index sample level) = tt
holds_no_composition (ImageQuery image query) = tt
holds_no_composition (Unary op expr) = tt
holds_no_composition (Binary op left right) = tt
holds_no_composition (Select condition accept reject) = tt
holds_no_composition (Derivative axis ctrl expr) = tt
holds_no_composition (Relational fun argument) = tt
holds_no_composition (Math fun arg arg1 arg2 arg3) = tt
holds_no_composition (As expr kind convert) = tt
holds_no_composition (CallResult function) = tt
holds_no_composition (AtomicResult type comparison) = tt
holds_no_composition (WorkGroupUniformLoadResult type) = tt
holds_no_composition (ArrayLength array) = tt
holds_no_composition (RayQueryVertexPositions query committed) = tt
holds_no_composition RayQueryProceedResult = tt
holds_no_composition (RayQueryGetIntersection query committed) = tt
holds_no_composition SubgroupBallotResult = tt
holds_no_composition (SubgroupOperationResult type) = tt
holds_no_composition (CooperativeLoad columns rows role block) = tt
holds_no_composition (CooperativeMultiplyAdd a b c) = tt
