use Rattle.std.proofs.Common.{◌≡◌, drop}
use Rattle.serde_json.specs.View.{view}
use Rattle.check_faults.specs.Parts.{along}
use Rattle.check_faults.proofs.document.along.Given as goal

-- the remaining steps lead from here to where all steps lead from the start
abbrev pub invariant-loop-step : goal.invariant-loop-step
invariant-loop-step l = along (drop l.step-index l.steps) (view l.found) ≡ along l.steps (view l.value)
