use Rattle.check_json.specs.Written.{AddsItems}
use Rattle.check_json.proofs.reported.add_globals.Given as goal

abbrev pub invariant-loop-row : goal.invariant-loop-row
invariant-loop-row l = AddsItems l.fn.w l.w
