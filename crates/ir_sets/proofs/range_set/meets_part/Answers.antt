use Rattle.std.proofs.Common.{sym}
use Rattle.ir_sets.specs.Ranges.{has_number}
use Rattle.ir_sets.proofs.Parts.{none_meets, full_meets, uncounted_meets, counted_meets}
use Rattle.ir_sets.proofs.range_set.meets_part.Goals as goal

pub returns-then-from-end : goal.returns-then-from-end
returns-then-from-end c = none_meets (has_number c.args.words.now c.args.some.now c.args.full.now) c.args.from c.args.end c.if-from-end.true

pub returns-then-contains : goal.returns-then-contains
returns-then-contains c = full_meets c.args.words.now c.args.some.now c.args.full.now c.args.from c.args.end c.if-from-end.false c.requires.one_word (sym c.if-contains.ensures)

pub returns-then-not-contains : goal.returns-then-not-contains
returns-then-not-contains c =
    uncounted_meets c.args.words.now c.args.some.now c.args.full.now c.args.from c.args.end c.if-from-end.false c.requires.one_word (sym c.if-contains.ensures) (sym c.if-not-contains.ensures)

pub returns : goal.returns
returns c =
    counted_meets c.args.words.now c.args.some.now c.args.full.now c.args.from c.args.end c.if-from-end.false c.requires.one_word (sym c.if-contains.ensures) (sym c.if-not-contains.ensures)
    c.first_between.result c.is_some.result (sym c.is_some.ensures) c.first_between.ensures.none c.first_between.ensures.some
