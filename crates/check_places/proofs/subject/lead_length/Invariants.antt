use Rattle.std.proofs.Common.{◌≡◌, ◌+◌, drop}
use Rattle.serde_json.specs.View.{view}
use Rattle.check_places.specs.Leading.{lead_length}
use Rattle.check_places.proofs.subject.lead_length.Given as goal

-- the steps so far lead to this part, and the rest determines how many follow
abbrev pub invariant-loop-step : goal.invariant-loop-step
invariant-loop-step l = (l.count ≡ l.step-index) × (l.count + lead_length (drop l.step-index l.path) (view l.found) ≡ lead_length l.path (view l.document))
