-- Errors of emitted ranges.
use Rattle.std.specs.Prelude.{ℕ, Bool, true, false, List, length, Option, None, Some, IfSome, MatchOption, slice_get}
use Rattle.typing_errors.specs.declared.error.FunctionError.{FunctionError}
use Rattle.typing_errors.specs.declared.error.FunctionError.TheVariants as error
use Rattle.ir_arena.specs.judged.Handles.{handles_between}
use Rattle.ir_sets.specs.Next.{AreNext}
use Rattle.ir_types.specs.judged.ExpressionPlain.{PlainExpression, compose, plain}
use Rattle.ir_types.specs.declared.expressions.Expression.{Expression}
use Rattle.ir_types.specs.declared.expressions.Expression.TheVariants as x
use Rattle.typing_rules.specs.judged.Laws.{IsAmong}
use Rattle.spec_statements.specs.judged.BlockContext.{BlockContext}
use Rattle.spec_statements.specs.judged.Emits.{EmitOK, IsEmittable}

-- an expression of the range is the result of a statement, or does not exist
abbrev pub IsEmitFault : BlockContext → (first end : ℕ) → FunctionError → Type 0
IsEmitFault c first end (error.EmitResult e) = IsAmong e (handles_between (first, end)) × ¬ IfSome (slice_get c.f.expressions e) IsEmittable
IsEmitFault c first end _ = ⊥

-- whether an expression is the result of a statement
abbrev pub is_answer_itself : Expression → Bool
is_answer_itself (x.Literal value) = false
is_answer_itself (x.Constant constant) = false
is_answer_itself (x.Override override) = false
is_answer_itself (x.ZeroValue type) = false
is_answer_itself (x.Compose type components) = false
is_answer_itself (x.Access base index) = false
is_answer_itself (x.AccessIndex base index) = false
is_answer_itself (x.Splat size value) = false
is_answer_itself (x.Swizzle size vector pattern) = false
is_answer_itself (x.FunctionArgument place) = false
is_answer_itself (x.GlobalVariable global) = false
is_answer_itself (x.LocalVariable local) = false
is_answer_itself (x.Load pointer) = false
is_answer_itself (x.ImageSample image sampler gather coordinate array_index offset level depth_ref clamp_to_edge) = false
is_answer_itself (x.ImageLoad image coordinate array_index sample level) = false
is_answer_itself (x.ImageQuery image query) = false
is_answer_itself (x.Unary op expr) = false
is_answer_itself (x.Binary op left right) = false
is_answer_itself (x.Select condition accept reject) = false
is_answer_itself (x.Derivative axis ctrl expr) = false
is_answer_itself (x.Relational fun argument) = false
is_answer_itself (x.Math fun arg arg1 arg2 arg3) = false
is_answer_itself (x.As expr kind convert) = false
is_answer_itself (x.CallResult function) = true
is_answer_itself (x.AtomicResult type comparison) = true
is_answer_itself (x.WorkGroupUniformLoadResult type) = true
is_answer_itself (x.ArrayLength array) = false
is_answer_itself (x.RayQueryVertexPositions query committed) = false
is_answer_itself x.RayQueryProceedResult = true
is_answer_itself (x.RayQueryGetIntersection query committed) = false
is_answer_itself x.SubgroupBallotResult = true
is_answer_itself (x.SubgroupOperationResult type) = true
is_answer_itself (x.CooperativeLoad columns rows role block) = false
is_answer_itself (x.CooperativeMultiplyAdd a b c) = false

abbrev pub is_answer : PlainExpression → Bool
is_answer (compose type components) = false
is_answer (plain expression) = is_answer_itself expression

abbrev pub is_answer_there : Option PlainExpression → Bool
is_answer_there None = false
is_answer_there (Some expression) = is_answer expression

-- the same for the expression at a handle
abbrev pub is_answer_at : List PlainExpression → ℕ → Bool
is_answer_at expressions e = is_answer_there (slice_get expressions e)

-- for each expression the first one from it on that is the result of a statement
abbrev pub AreAnswers : List PlainExpression → List ℕ → Type 0
AreAnswers expressions next = AreNext (is_answer_at expressions) (length expressions) next

-- the first of a range that is the result of a statement, if any
abbrev pub IsAnswerOf : List PlainExpression → (range : ℕ × ℕ) → Option ℕ → Type 0
IsAnswerOf expressions range found =
    MatchOption found (EmitOK expressions range.0 range.1) (λ e. IsAmong e (handles_between range) × ¬ IfSome (slice_get expressions e) IsEmittable)
