-- Emitted expressions.
use Rattle.std.specs.Prelude.{ℕ, List, All, IfSome, slice_get, IsTrue}
use Rattle.ir_arena.specs.judged.Handles.{handles_between}
use Rattle.ir_types.specs.judged.ExpressionPlain.{PlainExpression}
use Rattle.spec_expressions.specs.judged.Kinds.{row_of_expression}

-- the result expression of a statement is not emitted; expressions that are always in scope are rejected by the rules of scope
abbrev pub IsEmittable : PlainExpression → Type 0
IsEmittable x = IsTrue (row_of_expression x).emitted

-- each expression of a range may be emitted
abbrev pub EmitOK : List PlainExpression → (first end : ℕ) → Type 0
EmitOK expressions first end = All (λ e. IfSome (slice_get expressions e) IsEmittable) (handles_between (first, end))
