-- The latest so far, and of the rest, is the latest of all.
use Rattle.std.proofs.Common.{◌≡◌, drop, map}
use Rattle.typing_layout.specs.judged.Constness.{later, latest}
use Rattle.typing_layout.specs.found.Kinds.{known_kind}
use Rattle.typing_layout.proofs.tracker.latest_kind.Given as goal

abbrev pub invariant-loop-operand : goal.invariant-loop-operand
invariant-loop-operand l =
    later l.latest (latest (map (known_kind l.kinds) (drop l.operand-index l.operands))) ≡ latest (map (known_kind l.kinds) l.operands)
