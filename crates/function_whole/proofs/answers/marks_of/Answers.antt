use Rattle.std.proofs.Common.{◌≡◌, ◌↔◌, ◌+◌, [], ◌∷◌, ◌++◌, Contains, IsTrue, length, ap, sym, subst, ◌∙◌}
use Rattle.function_whole.proofs.Marks.{MarkedBelow, longer, one_marked}
use Rattle.function_whole.proofs.answers.marks_of.Goals as goal

pub loop-index-preserved : goal.loop-index-preserved
loop-index-preserved c =
    let pushed : c.push.new.self.items ≡ c.loop-index.marks.items ++ c.contains.result ∷ [] = c.in_ok-push.ensures.items in (
      ap length pushed ∙ longer c.loop-index.marks.items c.contains.result c.loop-index.index c.loop-index.invariant.0,
      subst (λ marks. MarkedBelow c.args.answered.now marks (c.loop-index.index + 1)) (sym pushed)
          (one_marked c.args.answered.now c.loop-index.marks.items c.loop-index.index c.contains.result c.loop-index.invariant.0 c.loop-index.invariant.1
          (subst (λ k. IsTrue c.contains.result ↔ Contains c.args.answered.now k) c.at.ensures c.contains.ensures)),
    )
