use Rattle.std.proofs.Common.{true, ◌∙◌, arith}
use Rattle.ir_sets.specs.Ranges.{counts}
use Rattle.ir_sets.proofs.Parts.{becomes_none, counts_added, filled_added}
use Rattle.ir_sets.proofs.range_set.add_part.Goals as goal

pub returns-then-from-end-clause-added : goal.returns-then-from-end-clause-added
returns-then-from-end-clause-added c = becomes_none true (counts c.args.words.now c.args.some.now) c.args.from c.args.end c.if-from-end.true

pub insert_between-requires-clause-room : goal.insert_between-requires-clause-room
insert_between-requires-clause-room c = omega (arith, c.begin.ensures.len)

pub returns-clause-len : goal.returns-clause-len
returns-clause-len c = c.insert_between.ensures.len ∙ c.begin.ensures.len

pub returns-clause-filled : goal.returns-clause-filled
returns-clause-filled c =
    filled_added c.args.words.now c.args.some.now c.begin.new.words c.begin.new.some c.insert_between.new.words c.args.from c.args.end c.if-from-end.false c.requires.one_word
    c.begin.ensures.changes c.begin.ensures.begun c.insert_between.ensures.added c.requires.filled

pub returns-clause-added : goal.returns-clause-added
returns-clause-added c =
    counts_added c.args.words.now c.args.some.now c.begin.new.words c.begin.new.some c.insert_between.new.words c.args.from c.args.end c.if-from-end.false c.requires.one_word
    c.begin.ensures.changes c.begin.ensures.begun c.insert_between.ensures.added c.begin.ensures.same
