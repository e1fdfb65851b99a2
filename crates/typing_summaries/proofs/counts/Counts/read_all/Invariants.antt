use Rattle.std.proofs.Common.{◌≡◌, drop, map}
use Rattle.spec_expressions.specs.judged.OperandUses.{operand}
use Rattle.spec_expressions.specs.declared.operand.Usage.TheVariants.{Read}
use Rattle.typing_summaries.specs.Tallies.{counted, take_all}
use Rattle.typing_summaries.proofs.counts.Counts.read_all.Given as goal

abbrev pub invariant-loop-handle : goal.invariant-loop-handle
invariant-loop-handle l = take_all l.globals (map (operand Read) (drop l.handle-index l.handles)) (counted l.self) ≡ take_all l.globals (map (operand Read) l.handles) (counted l.fn.self)
