use Rattle.ir_sets.proofs.Words.{last_bit, last_some}
use Rattle.ir_sets.proofs.bits.greatest.Goals as goal

pub ilog2-requires : goal.ilog2-requires
ilog2-requires c = last_some c.args.words.now c.in_ok-last.before.now c.in_ok-last.last.now c.in_ok-last.ensures.cases.0 c.requires.trimmed

pub returns-clause-some : goal.returns-clause-some
returns-clause-some c =
    rw c.in_ok-last.ensures.cases.0 (last_bit c.in_ok-last.before.now c.in_ok-last.last.now c.ilog2.result c.ilog2.ensures.power_le c.ilog2.ensures.next_power_gt c.ilog2.ensures.bound)
