use Rattle.std.proofs.Common.{◌≡◌, ◌≤◌, true, true≢false, sym, ◌∙◌, subst, arith}
use Rattle.function_strict_scope.proofs.LiveLemmas.{cut_follows}
use Rattle.function_strict_scope.specs.Live.{Follows}
use Rattle.function_strict_scope.proofs.live.cut.Goals as goal
use Rattle.function_strict_scope.proofs.live.cut.Goals.{then-loop-live-test+else-many-count, else-loop-live-test}

pub returns-clause-live : goal.returns-clause-live
returns-clause-live c = λ f follows.
    let done : c.loop-live.live.whole ≡ true → c.loop-live.many ≤ c.args.count = elim c.loop-live-test.branch [
      | then-loop-live-test+else-many-count w ↦ (λ whole. omega (arith, w.if-many-count.false))
      | else-loop-live-test w ↦ (λ whole. absurd (true≢false (sym whole ∙ w.loop-live-test.false)))
    ] in
    subst (Follows f c.loop-live.live) (sym c.cut.ensures) (cut_follows f c.loop-live.live c.args.sure.now c.loop-live.many c.args.count (c.loop-live.invariant.follows f follows) done c.loop-live.invariant.either)
