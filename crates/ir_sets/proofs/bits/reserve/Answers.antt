use Rattle.std.proofs.Common.{◌-◌, arith, take_all}
use Rattle.ir_sets.proofs.Words.{longer}
use Rattle.ir_sets.proofs.bits.reserve.Goals as goal

pub returns-in_ok-resize-clause-bits : goal.returns-in_ok-resize-clause-bits
returns-in_ok-resize-clause-bits c n =
    rw (c.in_ok-resize.ensures.items, take_all c.div_ceil-count.result c.args.words.now.items (omega arith)) (longer c.args.words.now.items (c.div_ceil-count.result - c.args.words.now.len) n)
