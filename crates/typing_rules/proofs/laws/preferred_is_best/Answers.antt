use Rattle.typing_rules.proofs.TableOrder as order
use Rattle.typing_rules.proofs.laws.preferred_is_best.Goals as goal

pub returns : goal.returns
returns c = order.preferred_is_best
