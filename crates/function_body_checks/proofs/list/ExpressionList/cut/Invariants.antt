use Rattle.std.proofs.Common.{◌≡◌, ◌+◌, ◌-◌, length, take}
use Rattle.function_body_checks.specs.Lists.{listed, AreListed}
use Rattle.function_body_checks.proofs.list.ExpressionList.cut.Given as goal

-- the first so many stay
abbrev pub invariant-loop-self : goal.invariant-loop-self
invariant-loop-self l =
    AreListed l.self-inside.members l.self-inside.ranges.items l.self-inside.count
    × (take l.count (listed l.self-inside.ranges.items) ≡ take l.count l.fn.self)

abbrev pub decreases-loop-self : goal.decreases-loop-self
decreases-loop-self l = length l.self-inside.ranges.items + (l.self-inside.count - l.count)
