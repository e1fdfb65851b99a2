use Rattle.check_json.specs.Written.{AddsItems}
use Rattle.check_names.proofs.parts.add_entries.Given as goal

abbrev pub invariant-loop-place : goal.invariant-loop-place
invariant-loop-place l = AddsItems l.fn.w l.w
