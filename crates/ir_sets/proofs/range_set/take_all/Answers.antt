use Rattle.std.proofs.Common.{◌/◌, false, ◌∙◌, arith}
use Rattle.ir_sets.specs.Ranges.{has_number}
use Rattle.ir_sets.proofs.Parts.{ranges_with, fewer, fewer_filled, whole_taken, all_parts}
use Rattle.ir_sets.proofs.range_set.take_all.Goals as goal

pub take_part-requires-2-clause-filled : goal.take_part-requires-2-clause-filled
take_part-requires-2-clause-filled c =
    fewer_filled c.args.words.now c.args.some.now c.remove_between.new.words c.requires.are.filled (fewer c.args.some.now c.remove_between.new.words c.div_ceil-first.result (c.args.end / 64) c.remove_between.ensures.taken)

pub returns-then-last-first-clause-are : goal.returns-then-last-first-clause-are
returns-then-last-first-clause-are c =
    ranges_with c.args.words.now c.args.some.now c.args.full.now c.take_part.new.words c.take_part.new.some c.take_part.new.full c.requires.are c.take_part.ensures.len c.take_part.ensures.len_of_some c.take_part.ensures.len_of_full c.take_part.ensures.filled
    (λ m one. c.requires.are.whole m (c.take_part.ensures.fewer_full m one))

pub returns-clause-are : goal.returns-clause-are
returns-clause-are c =
    ranges_with c.args.words.now c.args.some.now c.args.full.now c.take_part-3.new.words c.take_part-3.new.some c.take_part-3.new.full c.requires.are
    (c.take_part-3.ensures.len ∙ c.take_part-2.ensures.len) (c.take_part-3.ensures.len_of_some ∙ c.take_part-2.ensures.len_of_some ∙ c.remove_between.ensures.len) (c.take_part-3.ensures.len_of_full ∙ c.take_part-2.ensures.len_of_full ∙ c.remove_between-2.ensures.len)
    c.take_part-3.ensures.filled
    (λ m one. c.requires.are.whole m (fewer c.args.full.now c.remove_between-2.new.words c.div_ceil-first.result (c.args.end / 64) c.remove_between-2.ensures.taken m (c.take_part-2.ensures.fewer_full m (c.take_part-3.ensures.fewer_full m one))))

pub returns-clause-taken : goal.returns-clause-taken
returns-clause-taken c =
    let first = c.div_ceil-first.result in
    let last = c.args.end / 64 in
    all_parts false (has_number c.args.words.now c.args.some.now c.args.full.now) (has_number c.args.words.now c.remove_between.new.words c.remove_between-2.new.words)
    (has_number c.take_part-2.new.words c.take_part-2.new.some c.take_part-2.new.full) (has_number c.take_part-3.new.words c.take_part-3.new.some c.take_part-3.new.full)
    c.args.from c.args.end first last (omega (arith, c.div_ceil-first.ensures)) c.if-last-first.false (omega arith)
    (whole_taken c.args.words.now c.args.some.now c.args.full.now c.remove_between.new.words c.remove_between-2.new.words first last c.remove_between.ensures.taken c.remove_between-2.ensures.taken)
    c.take_part-2.ensures.taken c.take_part-3.ensures.taken
