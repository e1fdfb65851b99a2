use Rattle.std.proofs.Common.{false, ◌∙◌, arith}
use Rattle.ir_sets.specs.Ranges.{has_number}
use Rattle.ir_sets.proofs.Parts.{becomes_none, becomes_then, number_taken, filled_taken, number_same}
use Rattle.ir_sets.proofs.range_set.take_part.Goals as goal

pub returns-then-from-end-clause-fewer_full : goal.returns-then-from-end-clause-fewer_full
returns-then-from-end-clause-fewer_full c m one = one

pub returns-then-from-end-clause-taken : goal.returns-then-from-end-clause-taken
returns-then-from-end-clause-taken c = becomes_none false (has_number c.args.words.now c.args.some.now c.args.full.now) c.args.from c.args.end c.if-from-end.true

pub remove_between-requires-clause-room : goal.remove_between-requires-clause-room
remove_between-requires-clause-room c = omega (arith, c.spell.ensures.len)

pub drop_empty-requires-clause-within : goal.drop_empty-requires-clause-within
drop_empty-requires-clause-within c = omega (arith, c.spell.ensures.len, c.remove_between.ensures.len)

pub drop_empty-requires-clause-filled : goal.drop_empty-requires-clause-filled
drop_empty-requires-clause-filled c =
    filled_taken c.args.words.now c.args.some.now c.args.full.now c.spell.new.words c.spell.new.some c.spell.new.full c.remove_between.new.words c.args.from c.args.end c.if-from-end.false c.requires.one_word
    c.spell.ensures.changes c.remove_between.ensures.taken c.requires.filled

pub returns-clause-len : goal.returns-clause-len
returns-clause-len c = c.remove_between.ensures.len ∙ c.spell.ensures.len

pub returns-clause-len_of_some : goal.returns-clause-len_of_some
returns-clause-len_of_some c = c.drop_empty.ensures.len_of_some ∙ c.spell.ensures.len_of_some

pub returns-clause-taken : goal.returns-clause-taken
returns-clause-taken c =
    becomes_then false (has_number c.args.words.now c.args.some.now c.args.full.now) (has_number c.remove_between.new.words c.spell.new.some c.spell.new.full) (has_number c.remove_between.new.words c.drop_empty.new.some c.spell.new.full) c.args.from c.args.end
    (number_same c.remove_between.new.words c.spell.new.some c.remove_between.new.words c.drop_empty.new.some c.spell.new.full c.drop_empty.ensures.same)
    (number_taken c.args.words.now c.args.some.now c.args.full.now c.spell.new.words c.spell.new.some c.spell.new.full c.remove_between.new.words c.args.from c.args.end c.if-from-end.false c.requires.one_word
    c.spell.ensures.changes c.remove_between.ensures.taken c.spell.ensures.spelled c.spell.ensures.same)
