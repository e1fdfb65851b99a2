use Rattle.std.proofs.Common.{sym, subst}
use Rattle.function_modules.proofs.Assembled.{made_of}
use Rattle.function_modules.specs.Made.{IsMadeOf}
use Rattle.function_modules.specs.Severities.{AreKnown}
use Rattle.typing_uniformity.proofs.Nearest.{nothing_known}
use Rattle.function_modules.proofs.laws.made_for_accepted.Goals as goal

pub returns : goal.returns
returns c = λ s resolved m info lower ok told is none. (
  subst (IsMadeOf m) (sym is) (made_of s resolved m info ok told),
  subst (AreKnown m) (sym none) (nothing_known m.filters),
)
