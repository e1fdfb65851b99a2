-- What was appended so far, followed by the rest, is the whole result.
use Rattle.std.proofs.Common.{◌≡◌, ◌++◌, drop}
use Rattle.typing_infos.proofs.sampled.append.Given as goal

abbrev pub invariant-loop-value : goal.invariant-loop-value
invariant-loop-value g l = (l.values.items ++ drop l.value-index l.others) ≡ l.fn.values.items ++ l.others
