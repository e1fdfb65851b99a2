-- The rest contains the value exactly if the whole list does.
use Rattle.std.proofs.Common.{◌≡◌, drop}
use Rattle.std.specs.List.{list_any}
use Rattle.typing_infos.proofs.sampled.holds.Given as goal

abbrev pub invariant-loop-held : goal.invariant-loop-held
invariant-loop-held g l = list_any (g.T.PartialEq.eq l.value) (drop l.held-index l.values) ≡ list_any (g.T.PartialEq.eq l.value) l.values
