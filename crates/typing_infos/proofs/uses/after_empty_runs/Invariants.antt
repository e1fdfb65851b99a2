-- None of those so far has a use.
use Rattle.std.proofs.Common.{◌≤◌, ◌-◌}
use Rattle.typing_infos.specs.Infos.{NoneUsed}
use Rattle.typing_infos.proofs.uses.after_empty_runs.Given as goal

abbrev pub invariant-loop-from : goal.invariant-loop-from
invariant-loop-from l = (l.from ≤ l.place) × NoneUsed l.uses l.from l.place

abbrev pub decreases-loop-from : goal.decreases-loop-from
decreases-loop-from l = l.end - l.place
