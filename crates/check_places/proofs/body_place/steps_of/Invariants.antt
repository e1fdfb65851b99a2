use Rattle.std.proofs.Common.{◌≡◌, ◌++◌, drop, map}
use Rattle.check_places.specs.Placed.{clamped}
use Rattle.check_places.proofs.body_place.steps_of.Given as goal

-- the steps so far, with those of the rest, are those of all
abbrev pub invariant-loop-index : goal.invariant-loop-index
invariant-loop-index l = l.path.items ++ map clamped (drop l.index-index l.indexes) ≡ map clamped l.indexes
