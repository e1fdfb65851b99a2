-- The result of the rest is the result of the whole.
use Rattle.std.proofs.Common.{◌≡◌, ◌++◌, reverse}
use Rattle.ir_items.proofs.flatten.push_reversed.Given as goal

abbrev pub invariant-loop-part : goal.invariant-loop-part
invariant-loop-part l = l.ahead.items ++ reverse l.part-iterator.iter.rest.now ≡ l.initial.ahead.items ++ reverse l.parts
