-- The expressions so far are accepted.
use Rattle.std.proofs.Common.{ℕ, ◌<◌}
use Rattle.module_constants.specs.Known.{module_in}
use Rattle.spec_expressions.specs.judged.GlobalExpressions.{GlobalExpressionOK}
use Rattle.module_constants.proofs.expressions.validate_const_expressions.Given as goal

abbrev pub invariant-loop-place : goal.invariant-loop-place
invariant-loop-place l = (handle : ℕ) → handle < l.place → GlobalExpressionOK l.context.capabilities l.context.overrides_resolved (module_in l.context) handle
