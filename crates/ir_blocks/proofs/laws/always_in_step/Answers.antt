use Rattle.ir_blocks.proofs.InStepLaws.{always_in_step}
use Rattle.ir_blocks.proofs.laws.always_in_step.Goals as goal

pub returns : goal.returns
returns c = always_in_step
