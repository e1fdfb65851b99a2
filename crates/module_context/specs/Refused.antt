-- The error of an expression that breaks a rule with no error of its own.
use Rattle.std.specs.Prelude.{◌≡◌}
use Rattle.typing_errors.specs.declared.expressions.ExpressionError.{ExpressionError}
use Rattle.typing_errors.specs.declared.expressions.ExpressionError.TheVariants.{Other}

-- the rule does not hold
abbrev pub IsRefused : (Rule : Type 0) → ExpressionError → Type 0
IsRefused Rule e = (e ≡ Other) × ¬ Rule
