use Rattle.std.proofs.Common.{◌*◌, ◌/◌, arith}
use Rattle.ir_sets.specs.Ranges.{has_number}
use Rattle.ir_sets.proofs.Parts.{some_wider, all_meet}
use Rattle.ir_sets.proofs.range_set.meets_all.Goals as goal

pub returns-then-meets_part : goal.returns-then-meets_part
returns-then-meets_part c =
    some_wider (has_number c.args.words.now c.args.some.now c.args.full.now) c.args.from (c.div_ceil-first.result * 64) c.args.from c.args.end (omega arith) (omega (arith, c.div_ceil-first.ensures)) c.if-meets_part.ensures

pub returns-then-meets_part-2 : goal.returns-then-meets_part-2
returns-then-meets_part-2 c =
    some_wider (has_number c.args.words.now c.args.some.now c.args.full.now) (c.args.end / 64 * 64) c.args.end c.args.from c.args.end (omega (arith, c.div_ceil-first.ensures)) (omega arith) c.if-meets_part-2.ensures

pub returns : goal.returns
returns c =
    all_meet (has_number c.args.words.now c.args.some.now c.args.full.now) c.args.from c.args.end c.div_ceil-first.result (c.args.end / 64) (omega (arith, c.div_ceil-first.ensures)) c.if-last-first.false (omega arith)
    c.if-meets_part.ensures c.if-meets_part-2.ensures c.meets_whole.result c.meets_whole.ensures
