use Rattle.std.proofs.Common.{◌≡◌, [], ◌∷◌, ◌++◌, Some, map, take, slice_get, ap, sym, subst, ◌∙◌}
use Rattle.function_whole.proofs.TakeLaws.{one_more_taken}
use Rattle.typing_forms.specs.judged.Resolutions.{types_view}
use Rattle.typing_errors.specs.Answers.{form_given}
use Rattle.function_whole.proofs.forms.forms_of.Goals as goal

pub loop-index-preserved : goal.loop-index-preserved
loop-index-preserved g c =
    let types = g.L.Lower.types c.args.lower.now c.args.info.now in
    let found = form_given (types_view c.args.types.now) in
    let pushed : c.push.new.self.items ≡ c.loop-index.forms.items ++ c.form_of.result ∷ [] = c.in_ok-push.ensures.items in
    pushed ∙ ap (λ forms. forms ++ c.form_of.result ∷ []) c.loop-index.invariant
    ∙ ap (λ form. map found (take c.loop-index.index types) ++ form ∷ []) c.form_of.ensures
    ∙ sym (one_more_taken found types c.loop-index.index c.resolution-resolution.result.now (subst (λ k. slice_get types k ≡ Some c.resolution-resolution.result.now) c.at.ensures c.resolution-resolution.ensures))
