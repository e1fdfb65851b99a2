use Rattle.std.proofs.Common.{◌≡◌, [], ◌∷◌, ◌++◌, Some, slice_get, ap, sym, subst, ◌∙◌}
use Rattle.function_whole.proofs.Noted.{one_more_taken}
use Rattle.function_whole.proofs.uses.uses_of.Goals as goal

pub loop-index-preserved : goal.loop-index-preserved
loop-index-preserved g c =
    let all = (g.L.Lower.summary c.args.lower.now c.args.info.now).uses in
    let pushed : c.push.new.self.items ≡ c.loop-index.uses.items ++ c.uses.result ∷ [] = c.in_ok-push.ensures.items in
    pushed ∙ ap (λ us. us ++ c.uses.result ∷ []) c.loop-index.invariant
    ∙ sym (one_more_taken all c.loop-index.index c.uses.result (subst (λ k. slice_get all k ≡ Some c.uses.result) c.at.ensures c.uses.ensures))
