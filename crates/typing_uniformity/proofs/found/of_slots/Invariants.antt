use Rattle.std.proofs.Common.{◌≡◌, drop, None}
use Rattle.spec_expressions.specs.judged.OperandUses.{operands_in}
use Rattle.spec_expressions.specs.judged.Operands.{these}
use Rattle.typing_uniformity.specs.Facts.{find_all}
use Rattle.typing_uniformity.proofs.found.of_slots.Given as goal

abbrev pub invariant-loop-slot : goal.invariant-loop-slot
invariant-loop-slot l = find_all l.sources (operands_in (these (drop l.slot-index l.slots))) l.found ≡ find_all l.sources (operands_in (these l.slots)) None
