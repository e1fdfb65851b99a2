use Rattle.ir_blocks.proofs.TailLaws.{is_completed}
use Rattle.ir_blocks.proofs.laws.completed_by_tails.Goals as goal

pub returns : goal.returns
returns c = is_completed
