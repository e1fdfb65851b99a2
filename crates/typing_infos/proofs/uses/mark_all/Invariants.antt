-- Adding the rest's uses gives the result of adding all.
use Rattle.std.proofs.Common.{◌≡◌, drop}
use Rattle.typing_infos.specs.Infos.{with_uses}
use Rattle.typing_infos.proofs.uses.mark_all.Given as goal

abbrev pub invariant-loop-more : goal.invariant-loop-more
invariant-loop-more l = with_uses l.uses.items (drop l.more-index l.noted) ≡ with_uses l.fn.uses.items l.noted
