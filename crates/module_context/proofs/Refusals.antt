-- From the result of a test to the result of a rule.
use Rattle.std.proofs.Common.{◌↔◌, Bool, IsTrue, Result, Ok, Err, MatchResult}
use Rattle.module_context.specs.Refused.{IsRefused}
use Rattle.typing_errors.specs.declared.expressions.ExpressionError.{ExpressionError}

-- if a test is true exactly if a rule holds, the error of the test is an error of the rule
pub by_test : (Rule : Type 0) (holds : Bool) (r : Result (Unit {0}) ExpressionError) → IsTrue holds ↔ Rule
    → MatchResult r (λ _. IsTrue holds) (IsRefused (IsTrue holds)) → MatchResult r (λ _. Rule) (IsRefused Rule)
by_test Rule holds (Ok u) is h = is.0 h
by_test Rule holds (Err e) is h = (h.0, λ rule. h.1 (is.1 rule))
