use Rattle.std.proofs.Common.{◌≡◌, drop}
use Rattle.typing_references.specs.First.{first_past}
use Rattle.typing_references.proofs.lists.first_past.Given as goal

-- the first match of the rest is the first of all
abbrev pub invariant-loop-handle : goal.invariant-loop-handle
invariant-loop-handle l = first_past l.end (drop l.handle-index l.handles) ≡ first_past l.end l.handles
