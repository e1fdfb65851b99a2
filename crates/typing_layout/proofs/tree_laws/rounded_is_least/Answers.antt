use Rattle.typing_layout.proofs.Sizes.{rounded_is_least as rounded}
use Rattle.typing_layout.proofs.tree_laws.rounded_is_least.Goals as goal

pub returns : goal.returns
returns c = rounded
