-- None of those so far has a use, unless one was found.
use Rattle.std.proofs.Common.{◌≡◌, false}
use Rattle.typing_infos.specs.Infos.{NoneUsed}
use Rattle.typing_infos.proofs.uses.has_use.Given as goal

abbrev pub invariant-loop-index : goal.invariant-loop-index
invariant-loop-index l = l.some ≡ false → NoneUsed l.uses 0 l.index
