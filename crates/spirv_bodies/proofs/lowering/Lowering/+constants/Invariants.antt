use Rattle.std.proofs.Common.{◌+◌, ◌*◌}
use Rattle.spirv_bodies.proofs.lowering.Lowering.+constants.Given as goal

abbrev pub decreases-constant_value : goal.decreases-constant_value
decreases-constant_value g l = 2 * l.depth + 1

abbrev pub decreases-composite : goal.decreases-composite
decreases-composite g l = 2 * l.depth

abbrev pub invariant-composite-loop-place : goal.invariant-composite-loop-place
invariant-composite-loop-place g l = Unit {0}
