use Rattle.std.proofs.Common.{◌≡◌, drop, map, None}
use Rattle.spec_expressions.specs.judged.OperandUses.{operand}
use Rattle.spec_expressions.specs.declared.operand.Usage.TheVariants.{Read}
use Rattle.typing_uniformity.specs.Facts.{find_all}
use Rattle.typing_uniformity.proofs.found.all.Given as goal

abbrev pub invariant-loop-operand : goal.invariant-loop-operand
invariant-loop-operand l = find_all l.sources (map (operand Read) (drop l.operand-index l.operands)) l.found ≡ find_all l.sources (map (operand Read) l.operands) None
