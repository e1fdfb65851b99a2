-- Expressions as plain data, without the memory of their lists.
use Rattle.std.specs.Prelude.{ℕ, List, Bool, true, false}
use Rattle.ir_types.specs.declared.expressions.SampleLevel.{SampleLevel}
use Rattle.ir_types.specs.declared.expressions.SampleLevel.TheVariants.{Auto, Zero, Exact, Bias, Gradient}
use Rattle.ir_types.specs.declared.expressions.Expression.{Expression}
use Rattle.ir_types.specs.declared.expressions.Expression.TheVariants.{Literal, Constant, Override, ZeroValue, Compose, FunctionArgument, GlobalVariable, LocalVariable, Access, AccessIndex, Splat, Swizzle, Load, ArrayLength, Unary, Binary, Select, Derivative, Relational, Math, As, ImageSample, ImageLoad, ImageQuery, CallResult, AtomicResult, WorkGroupUniformLoadResult, RayQueryVertexPositions, RayQueryProceedResult, RayQueryGetIntersection, SubgroupBallotResult, SubgroupOperationResult, CooperativeLoad, CooperativeMultiplyAdd}

-- a `Compose` by its type and its components, and any other expression as it is
pub data PlainExpression : Type 0 where
  compose : (type : ℕ) → (components : List ℕ) → PlainExpression
  plain : Expression → PlainExpression

abbrev pub expression_view : Expression → PlainExpression
expression_view (Compose type components) = compose type components.items
expression_view other = plain other

-- the expression is no `Compose`
abbrev pub IsPlain : PlainExpression → Type 0
IsPlain (compose type components) = ⊥
IsPlain (plain other) = Unit {0}

-- the expression is none of the kinds that `copy_plain` copies itself: it computes on its operands, or is one of those below
abbrev pub IsComputed : Expression → Type 0
IsComputed (Literal value) = ⊥
IsComputed (Constant handle) = ⊥
IsComputed (Override handle) = ⊥
IsComputed (ZeroValue type) = ⊥
IsComputed (Compose type components) = ⊥
IsComputed (Access base index) = ⊥
IsComputed (AccessIndex base index) = ⊥
IsComputed (Splat size value) = ⊥
IsComputed (Swizzle size vector pattern) = ⊥
IsComputed (FunctionArgument index) = ⊥
IsComputed (GlobalVariable handle) = ⊥
IsComputed (LocalVariable handle) = ⊥
IsComputed (Load pointer) = ⊥
IsComputed (ArrayLength array) = ⊥
IsComputed _ = Unit {0}

-- the expression is the result of a statement, or is of ray queries or cooperative matrices
abbrev pub IsResult : Expression → Type 0
IsResult (CallResult function) = Unit {0}
IsResult (AtomicResult type comparison) = Unit {0}
IsResult (WorkGroupUniformLoadResult type) = Unit {0}
IsResult (RayQueryVertexPositions query committed) = Unit {0}
IsResult RayQueryProceedResult = Unit {0}
IsResult (RayQueryGetIntersection query committed) = Unit {0}
IsResult SubgroupBallotResult = Unit {0}
IsResult (SubgroupOperationResult type) = Unit {0}
IsResult (CooperativeLoad columns rows role block) = Unit {0}
IsResult (CooperativeMultiplyAdd a b c) = Unit {0}
IsResult _ = ⊥

-- the expression is on an image, or is one of the results above
abbrev pub IsImageOrResult : Expression → Type 0
IsImageOrResult (ImageSample image sampler gather coordinate array_index offset level depth_ref clamp_to_edge) = Unit {0}
IsImageOrResult (ImageLoad image coordinate array_index sample level) = Unit {0}
IsImageOrResult (ImageQuery image query) = Unit {0}
IsImageOrResult other = IsResult other

-- whether the level requires implicit derivatives
abbrev pub implicit_derivatives : SampleLevel → Bool
implicit_derivatives Auto = true
implicit_derivatives Zero = false
implicit_derivatives (Exact level) = false
implicit_derivatives (Bias bias) = true
implicit_derivatives (Gradient x y) = false

-- whether the expression is in scope in its whole function
abbrev pub always_in_scope : Expression → Bool
always_in_scope (Literal value) = true
always_in_scope (Constant handle) = true
always_in_scope (Override handle) = true
always_in_scope (ZeroValue type) = true
always_in_scope (FunctionArgument index) = true
always_in_scope (GlobalVariable handle) = true
always_in_scope (LocalVariable handle) = true
always_in_scope _ = false

-- whether an access with this index is dynamic
abbrev pub is_dynamic : Expression → Bool
is_dynamic (Literal value) = false
is_dynamic (Constant handle) = false
is_dynamic (Override handle) = true
is_dynamic (ZeroValue type) = false
is_dynamic (Compose type components) = true
is_dynamic (Access base index) = true
is_dynamic (AccessIndex base index) = true
is_dynamic (Splat size value) = true
is_dynamic (Swizzle size vector pattern) = true
is_dynamic (FunctionArgument index) = true
is_dynamic (GlobalVariable handle) = true
is_dynamic (LocalVariable handle) = true
is_dynamic (Load pointer) = true
is_dynamic (ImageSample image sampler gather coordinate array_index offset level depth_ref clamp_to_edge) = true
is_dynamic (ImageLoad image coordinate array_index sample level) = true
is_dynamic (ImageQuery image query) = true
is_dynamic (Unary op expr) = true
is_dynamic (Binary op left right) = true
is_dynamic (Select condition accept reject) = true
is_dynamic (Derivative axis ctrl expr) = true
is_dynamic (Relational fun argument) = true
is_dynamic (Math fun arg arg1 arg2 arg3) = true
is_dynamic (As expr kind convert) = true
is_dynamic (CallResult function) = true
is_dynamic (AtomicResult type comparison) = true
is_dynamic (WorkGroupUniformLoadResult type) = true
is_dynamic (ArrayLength array) = true
is_dynamic (RayQueryVertexPositions query committed) = true
is_dynamic RayQueryProceedResult = true
is_dynamic (RayQueryGetIntersection query committed) = true
is_dynamic SubgroupBallotResult = true
is_dynamic (SubgroupOperationResult type) = true
is_dynamic (CooperativeLoad columns rows role block) = true
is_dynamic (CooperativeMultiplyAdd a b c) = true
