use Rattle.ir_sets.proofs.Words.{mask_is}
use Rattle.ir_sets.proofs.bits.ones_between.Goals as goal

pub returns : goal.returns
returns c = mask_is c.args.low c.args.high c.requires.ordered c.requires.within
