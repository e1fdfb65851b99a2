use Rattle.std.proofs.Common.{sym}
use Rattle.ir_sets.proofs.Words.{read_bit, no_word}
use Rattle.ir_sets.proofs.bits.contains.Goals as goal

pub returns-in-Some : goal.returns-in-Some
returns-in-Some c = read_bit c.args.words.now c.in-Some.word.now c.args.number (c.in-Some.ensures.lookup.3.1 0)

pub returns-in-None : goal.returns-in-None
returns-in-None c = sym (no_word c.args.words.now c.args.number c.in-None.ensures.lookup.3)
