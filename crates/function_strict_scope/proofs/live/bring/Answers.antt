use Rattle.function_strict_scope.proofs.LiveLemmas.{are_more}
use Rattle.function_strict_scope.proofs.live.bring.Goals as goal

pub returns-in-Ok : goal.returns-in-Ok
returns-in-Ok c = λ f sure follows.
    let was = c.args.live.now in
    let now = c.add.new.self in
    record {
      are = λ w. are_more f was.index.operands.items was.index.users.items now.operands.items now.users.items was.index.lacking now.lacking was.ranges.items c.push.new.self.items sure c.args.range
          c.index_range-bounds.result.start c.index_range-bounds.result.end (follows.are w) c.add.ensures.operands c.add.ensures.users c.in-Ok.ensures.items c.index_range-bounds.ensures.start c.index_range-bounds.ensures.end
          c.add.ensures.there;
    }
