use Rattle.std.proofs.Common.{◌^◌, ◌<◌, get_or, refl, rules}
use Rattle.ir_sets.proofs.Parts.{filled_some, filled_none, counts_none}
use Rattle.ir_sets.proofs.range_set.drop_empty.Goals as goal

pub returns-then-word-ne0-clause-filled : goal.returns-then-word-ne0-clause-filled
returns-then-word-ne0-clause-filled c =
    let small : get_or c.args.words.now c.args.index 0 < 2 ^ 64 = search rules in
    filled_some c.args.words.now c.args.some.now c.args.index c.requires.filled c.if-word-ne0.true small

pub returns-then-word-ne0-clause-same : goal.returns-then-word-ne0-clause-same
returns-then-word-ne0-clause-same c n = refl

pub returns-clause-filled : goal.returns-clause-filled
returns-clause-filled c = filled_none c.args.words.now c.args.some.now c.remove.new.words c.args.index c.requires.filled c.remove.ensures.bits

pub returns-clause-same : goal.returns-clause-same
returns-clause-same c = counts_none c.args.words.now c.args.some.now c.remove.new.words c.args.index c.if-word-ne0.false c.remove.ensures.bits
