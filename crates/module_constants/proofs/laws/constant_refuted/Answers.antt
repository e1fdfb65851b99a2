use Rattle.module_constants.proofs.Items.{constant_refuted as refuted}
use Rattle.module_constants.proofs.laws.constant_refuted.Goals as goal

pub returns : goal.returns
returns c = refuted
