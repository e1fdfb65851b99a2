use Rattle.ir_items.proofs.Returned.{one_returned}
use Rattle.ir_items.proofs.laws.one_returned.Goals as goal

pub returns : goal.returns
returns c = one_returned
