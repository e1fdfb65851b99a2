use Rattle.ir_blocks.proofs.TailLaws.{completed_once}
use Rattle.ir_blocks.proofs.laws.completed_once.Goals as goal

pub returns : goal.returns
returns c = completed_once
