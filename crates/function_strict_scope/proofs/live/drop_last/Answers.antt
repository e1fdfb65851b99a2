use Rattle.std.proofs.Common.{◌≡◌, ◌-◌, arith}
use Rattle.function_strict_scope.proofs.LiveLemmas.{are_less}
use Rattle.function_strict_scope.proofs.live.drop_last.Goals as goal

pub returns-in-Ok-clause-live : goal.returns-in-Ok-clause-live
returns-in-Ok-clause-live c = λ f sure same follows.
    let was = c.args.live.now in
    let now = c.remove.new.self in
    let first = c.index_range-bounds.result.start in
    let end = c.index_range-bounds.result.end in
    let left_is : c.saturating_sub-before.result ≡ c.args.many - (end - first) = omega (arith, c.saturating_sub.ensures, c.saturating_sub-before.ensures) in
    record {
      are = λ w. are_less f was.index.operands.items was.index.users.items now.operands.items now.users.items was.index.lacking now.lacking was.ranges.items c.pop.new.self.items sure c.in-Some.range
          first end c.args.many c.saturating_sub-before.result (follows.are w) c.in-Some.ensures.items c.index_range-bounds.ensures.start c.index_range-bounds.ensures.end same left_is c.in-Ok.ensures.operands c.in-Ok.ensures.users
          c.in-Ok.ensures.left;
    }
