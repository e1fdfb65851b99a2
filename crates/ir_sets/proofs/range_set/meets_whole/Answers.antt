use Rattle.std.proofs.Common.{sym, ◌∙◌}
use Rattle.ir_sets.proofs.Parts.{word_meets, words_meet}
use Rattle.ir_sets.proofs.range_set.meets_whole.Goals as goal

pub returns-then-is_some : goal.returns-then-is_some
returns-then-is_some c =
    word_meets c.args.words.now c.args.some.now c.args.full.now c.args.first c.args.last c.requires.filled c.first_between.result (sym c.is_some.ensures ∙ c.if-is_some.true) c.first_between.ensures.some

pub returns : goal.returns
returns c =
    words_meet c.args.words.now c.args.some.now c.args.full.now c.args.first c.args.last c.first_between.result (sym c.is_some.ensures ∙ c.if-is_some.false) c.first_between.ensures.none
    c.first_between-2.result c.is_some-2.result (sym c.is_some-2.ensures) c.first_between-2.ensures.none c.first_between-2.ensures.some
