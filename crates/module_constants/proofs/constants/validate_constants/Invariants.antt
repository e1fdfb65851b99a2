-- The constants so far are accepted.
use Rattle.std.proofs.Common.{ℕ, ◌<◌}
use Rattle.module_constants.specs.Known.{module_in}
use Rattle.spec_expressions.specs.judged.Constants.{ConstantOK}
use Rattle.module_constants.proofs.constants.validate_constants.Given as goal

abbrev pub invariant-loop-place : goal.invariant-loop-place
invariant-loop-place l = (handle : ℕ) → handle < l.place → ConstantOK (module_in l.context) handle
