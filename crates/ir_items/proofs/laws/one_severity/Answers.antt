use Rattle.ir_items.proofs.Paths.{one_severity}
use Rattle.ir_items.proofs.laws.one_severity.Goals as goal

pub returns : goal.returns
returns c = one_severity
