-- None of those so far has a use.
use Rattle.std.proofs.Common.{◌≤◌}
use Rattle.typing_infos.specs.Infos.{NoneUsed}
use Rattle.typing_infos.proofs.uses.first_used.Given as goal

abbrev pub invariant-loop-index : goal.invariant-loop-index
invariant-loop-index l = (l.from ≤ l.index) × NoneUsed l.uses l.from l.index
