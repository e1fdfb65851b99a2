use Rattle.std.proofs.Common.{rules, ◌≡◌, true}
use Rattle.function_strict_scope.proofs.LiveLemmas.{all_there}
use Rattle.function_strict_scope.proofs.live.has_all.Goals as goal

pub returns-in-None : goal.returns-in-None
returns-in-None c = λ is f sure follows.
    let whole : c.args.live.now.whole ≡ true = search rules in
    all_there f c.args.live.now sure c.args.range c.index_range-bounds.result.start c.index_range-bounds.result.end follows whole c.index_range-bounds.ensures.start c.index_range-bounds.ensures.end c.in-None.ensures.none
