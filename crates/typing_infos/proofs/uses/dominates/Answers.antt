use Rattle.std.proofs.Common.{refl, sym, subst, ◌∙◌, true≢false, arith}
use Rattle.typing_infos.proofs.UseBits.{DominatesBelow, dominates_all}
use Rattle.typing_infos.proofs.uses.dominates.Goals as goal

pub returns : goal.returns
returns c = (
  (λ e. dominates_all c.args.uses.now c.args.others.now c.loop-index.index c.loop-index.invariant (omega arith)),
  (λ h. refl),
)
