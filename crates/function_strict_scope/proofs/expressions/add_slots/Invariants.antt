use Rattle.std.proofs.Common.{◌≡◌, ◌++◌, drop}
use Rattle.spec_expressions.specs.judged.Operands.{these, handles_of}
use Rattle.function_strict_scope.proofs.expressions.add_slots.Given as goal

-- what was added with the rest is what all add
abbrev pub invariant-loop-slot : goal.invariant-loop-slot
invariant-loop-slot l = (l.list.items ++ handles_of (these (drop l.slot-index l.slots))) ≡ l.fn.list.items ++ handles_of (these l.slots)
