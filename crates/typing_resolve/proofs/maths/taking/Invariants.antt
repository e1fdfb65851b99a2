use Rattle.std.proofs.Common.{◌≡◌, drop}
use Rattle.typing_rules.specs.judged.MathTable.{math_overloads}
use Rattle.spec_expressions.specs.judged.Maths.{matching_rules}
use Rattle.typing_overloads.specs.Either.{any_rules}
use Rattle.typing_resolve.proofs.maths.taking.Given as goal

abbrev pub invariant-loop-place : goal.invariant-loop-place
invariant-loop-place l = matching_rules l.place (drop l.place l.given) (any_rules l.rules) ≡ matching_rules 0 l.given (math_overloads l.fn.fun)
