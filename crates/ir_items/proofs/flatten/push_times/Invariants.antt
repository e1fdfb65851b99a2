-- The stack is the original one, followed by as many copies as were counted.
use Rattle.std.proofs.Common.{◌≡◌, ◌++◌, replicate}
use Rattle.ir_items.proofs.flatten.push_times.Given as goal

abbrev pub invariant-loop : goal.invariant-loop
invariant-loop l = l.ahead.items ≡ l.initial.ahead.items ++ replicate l.counter l.part
