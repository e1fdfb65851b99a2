use Rattle.std.proofs.Common.{◌≡◌, take}
use Rattle.function_whole.proofs.uses.uses_of.Given as goal

-- those of the variables before
abbrev pub invariant-loop-index : goal.invariant-loop-index
invariant-loop-index g l = l.uses.items ≡ take l.index (g.L.Lower.summary l.lower l.info).uses
