use Rattle.module_constants.proofs.Items.{override_refuted as refuted}
use Rattle.module_constants.proofs.laws.override_refuted.Goals as goal

pub returns : goal.returns
returns c = refuted
