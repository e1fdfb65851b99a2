use Rattle.ir_sets.proofs.Words.{removed, not_there}
use Rattle.ir_sets.proofs.bits.remove.Goals as goal

pub returns-then-number-words-clause-bits : goal.returns-then-number-words-clause-bits
returns-then-number-words-clause-bits c = removed c.args.words.now c.args.number c.if-number-words.true

pub returns-else-number-words-clause-bits : goal.returns-else-number-words-clause-bits
returns-else-number-words-clause-bits c = not_there c.args.words.now c.args.number c.if-number-words.false
