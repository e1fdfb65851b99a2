use Rattle.std.proofs.Common.{◌≡◌, drop}
use Rattle.spec_expressions.specs.judged.OperandUses.{operands_in}
use Rattle.spec_expressions.specs.judged.Operands.{these}
use Rattle.typing_summaries.specs.Tallies.{counted, take_all}
use Rattle.typing_summaries.proofs.counts.Counts.take_slots.Given as goal

abbrev pub invariant-loop-slot : goal.invariant-loop-slot
invariant-loop-slot l = take_all l.globals (operands_in (these (drop l.slot-index l.slots))) (counted l.self) ≡ take_all l.globals (operands_in (these l.slots)) (counted l.fn.self)
