-- The overrides so far are valid, and their ids are in the set.
use Rattle.std.proofs.Common.{ℕ, ◌<◌}
use Rattle.module_constants.specs.Ids.{AreIds}
use Rattle.module_constants.specs.Known.{module_in}
use Rattle.spec_expressions.specs.judged.Overrides.{OverrideOK}
use Rattle.module_steps.proofs.listed_overrides.validate_overrides.Given as goal

abbrev pub invariant-loop-place : goal.invariant-loop-place
invariant-loop-place l = AreIds (module_in l.context).overrides l.place l.ids × ((handle : ℕ) → handle < l.place → OverrideOK l.context.overrides_resolved (module_in l.context) handle)
