use Rattle.check_json.specs.Written.{AddsItems}
use Rattle.check_json.proofs.reported.add_repeats.Given as goal

abbrev pub invariant-loop-repeat : goal.invariant-loop-repeat
invariant-loop-repeat l = AddsItems l.fn.w l.w
