use Rattle.std.proofs.Common.{◌≡◌, ◌++◌, drop, map}
use Rattle.serde_json.specs.View.{view}
use Rattle.check_faults.specs.Objects.{plain}
use Rattle.check_faults.proofs.object.steps_value.Given as goal

-- the list so far, with the remaining steps, is that of all steps
abbrev pub invariant-loop-step : goal.invariant-loop-step
invariant-loop-step l = map view l.list.items ++ map plain (drop l.step-index l.steps) ≡ map plain l.steps
