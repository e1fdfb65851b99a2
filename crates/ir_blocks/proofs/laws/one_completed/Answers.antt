use Rattle.ir_blocks.proofs.OneCompleted.{one_completed}
use Rattle.ir_blocks.proofs.laws.one_completed.Goals as goal

pub returns : goal.returns
returns c = one_completed
