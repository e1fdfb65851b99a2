use Rattle.std.proofs.Common.{◌≡◌, drop}
use Rattle.typing_references.specs.First.{first_past}
use Rattle.spec_expressions.specs.judged.Operands.{these, handles_of}
use Rattle.typing_references.proofs.lists.given_past.Given as goal

-- the first match of the rest is the first of all
abbrev pub invariant-loop-slot : goal.invariant-loop-slot
invariant-loop-slot l = first_past l.end (handles_of (these (drop l.slot-index l.slots))) ≡ first_past l.end (handles_of (these l.slots))
