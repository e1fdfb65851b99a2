use Rattle.std.proofs.Common.{◌*◌, ◌/◌, ◌≤◌, length, true, refl, ◌∙◌, arith}
use Rattle.ir_sets.specs.Ranges.{has_number}
use Rattle.ir_sets.proofs.Parts.{ranges_with, whole_with, number_counted, whole_added, all_parts}
use Rattle.ir_sets.proofs.range_set.add_all.Goals as goal

pub returns-then-last-first-clause-are : goal.returns-then-last-first-clause-are
returns-then-last-first-clause-are c =
    ranges_with c.args.words.now c.args.some.now c.args.full.now c.add_part.new.words c.add_part.new.some c.args.full.now c.requires.are c.add_part.ensures.len c.add_part.ensures.len_of_some refl c.add_part.ensures.filled c.requires.are.whole

pub returns-then-last-first-clause-added : goal.returns-then-last-first-clause-added
returns-then-last-first-clause-added c =
    number_counted true c.args.words.now c.args.some.now c.add_part.new.words c.add_part.new.some c.args.full.now c.args.from c.args.end refl c.add_part.ensures.added

pub returns-clause-are : goal.returns-clause-are
returns-clause-are c =
    let inside : c.args.end / 64 ≤ length c.args.words.now = omega (arith, c.requires.room) in
    ranges_with c.args.words.now c.args.some.now c.args.full.now c.add_part-3.new.words c.add_part-3.new.some c.insert_between.new.words c.requires.are
    (c.add_part-3.ensures.len ∙ c.add_part-2.ensures.len) (c.add_part-3.ensures.len_of_some ∙ c.add_part-2.ensures.len_of_some) c.insert_between.ensures.len c.add_part-3.ensures.filled
    (whole_with c.args.words.now c.args.some.now c.args.full.now c.insert_between.new.words c.div_ceil-first.result (c.args.end / 64) c.requires.are c.insert_between.ensures.added inside)

pub returns-clause-added : goal.returns-clause-added
returns-clause-added c =
    let first = c.div_ceil-first.result in
    let last = c.args.end / 64 in
    let full = c.insert_between.new.words in
    all_parts true (has_number c.args.words.now c.args.some.now c.args.full.now) (has_number c.args.words.now c.args.some.now full) (has_number c.add_part-2.new.words c.add_part-2.new.some full) (has_number c.add_part-3.new.words c.add_part-3.new.some full)
    c.args.from c.args.end first last (omega (arith, c.div_ceil-first.ensures)) c.if-last-first.false (omega arith)
    (whole_added c.args.words.now c.args.some.now c.args.full.now full first last c.insert_between.ensures.added)
    (number_counted true c.args.words.now c.args.some.now c.add_part-2.new.words c.add_part-2.new.some full c.args.from (first * 64) refl c.add_part-2.ensures.added)
    (number_counted true c.add_part-2.new.words c.add_part-2.new.some c.add_part-3.new.words c.add_part-3.new.some full (last * 64) c.args.end refl c.add_part-3.ensures.added)
