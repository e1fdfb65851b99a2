use Rattle.ir_items.proofs.Chains.{one_origin}
use Rattle.ir_items.proofs.laws.one_origin.Goals as goal

pub returns : goal.returns
returns c = one_origin
