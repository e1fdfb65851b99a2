use Rattle.ir_sets.proofs.Words.{inserted}
use Rattle.ir_sets.proofs.bits.insert.Goals as goal

pub returns-clause-bits : goal.returns-clause-bits
returns-clause-bits c = inserted c.args.words.now c.args.number c.requires
