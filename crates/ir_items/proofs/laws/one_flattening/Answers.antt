use Rattle.ir_items.proofs.FlatLemmas.{one_flattening}
use Rattle.ir_items.proofs.laws.one_flattening.Goals as goal

pub returns : goal.returns
returns c = one_flattening
