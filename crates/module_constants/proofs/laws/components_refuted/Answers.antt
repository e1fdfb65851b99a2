use Rattle.module_constants.proofs.Compositions.{components_refuted as refuted}
use Rattle.module_constants.proofs.laws.components_refuted.Goals as goal

pub returns : goal.returns
returns c = refuted
