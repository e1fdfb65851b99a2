use Rattle.ir_blocks.proofs.KeptEquality.{kept_equality}
use Rattle.ir_blocks.proofs.laws.kept_equality.Goals as goal

pub returns : goal.returns
returns c = kept_equality
