use Rattle.std.proofs.Common.{◌+◌, ◌*◌, ◌^◌, ◌<◌, arith, get_or, rules}
use Rattle.ir_sets.proofs.Words.{count_more, count_most}
use Rattle.ir_sets.proofs.bits.count.Goals as goal

pub overflow_add-total : goal.overflow_add-total
overflow_add-total c =
    let small : get_or c.args.words.now c.loop-word.word-index 0 < 2 ^ 64 = search rules in
    let more = count_more c.args.words.now c.loop-word.word-index small in
    let most = count_most c.args.words.now 0 (64 * (c.loop-word.word-index + 1)) in
    search (rules, more, most)

pub loop-word-preserved : goal.loop-word-preserved
loop-word-preserved c =
    let small : get_or c.args.words.now c.loop-word.word-index 0 < 2 ^ 64 = search rules in
    omega (arith, count_more c.args.words.now c.loop-word.word-index small)
