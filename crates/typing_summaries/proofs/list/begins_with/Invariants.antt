-- If the rest begins so, the whole does.
use Rattle.std.proofs.Common.{drop}
use Rattle.typing_summaries.specs.Fronts.{BeginsWith}
use Rattle.typing_summaries.proofs.list.begins_with.Given as goal

abbrev pub invariant-loop-index : goal.invariant-loop-index
invariant-loop-index g l = BeginsWith g.T.PartialEq.eq (drop l.index l.values) (drop l.index l.others) → BeginsWith g.T.PartialEq.eq l.values l.others
