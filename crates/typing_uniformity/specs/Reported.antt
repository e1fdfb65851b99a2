-- The uniformities assembled while all expressions are visited.
use Rattle.std.specs.Prelude.{ℕ, List, map, Option}
use Rattle.ir_types.specs.judged.ExpressionPlain.{PlainExpression, expression_view}
use Rattle.ir_types.specs.declared.expressions.Expression.{Expression}
use Rattle.spec_expressions.specs.declared.uniformity.Uniformity.{Uniformity}
use Rattle.spec_expressions.specs.judged.Values.{known_at, requirements_of}

-- The source of non-uniformity, and the bits of the requirements.
pub record Reported : Type 0 where
  pub source : Option ℕ
  pub requirement : ℕ

abbrev pub told : Uniformity → Reported
told u = record { source = u.non_uniform_result; requirement = u.requirements.0 }

abbrev pub reported_of : List (Option ℕ) → ℕ → PlainExpression → Reported
reported_of sources e x = record { source = known_at sources e; requirement = requirements_of x }

-- the uniformities of these expressions with their indices
abbrev pub all_reported : List (Option ℕ) → List (ℕ × Expression) → List Reported
all_reported sources expressions = map (λ (h : ℕ × Expression). reported_of sources h.0 (expression_view h.1)) expressions
