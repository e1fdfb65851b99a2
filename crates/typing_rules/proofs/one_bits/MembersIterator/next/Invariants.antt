use Rattle.std.proofs.Common.{◌≡◌, length}
use Rattle.typing_rules.specs.found.Bits.{chosen}
use Rattle.typing_rules.proofs.one_bits.MembersIterator.next.Given as goal

abbrev pub invariant-loop-first : goal.invariant-loop-first
invariant-loop-first g l = chosen l.self-inside.bits l.self-inside.items.now ≡ chosen l.initial.self-inside.bits l.initial.self-inside.items.now

abbrev pub decreases-loop-first : goal.decreases-loop-first
decreases-loop-first g l = length l.self-inside.items.now
