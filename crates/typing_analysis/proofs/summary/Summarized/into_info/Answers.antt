use Rattle.std.proofs.Common.{ap, ◌∙◌, subst, sym}
use Rattle.typing_infos.specs.Keys.{AreKeys}
use Rattle.typing_infos.specs.declared.sampled.SampledKeys.{SampledKeys}
use Rattle.typing_infos.specs.declared.sampled.SampledPairs.{SampledPairs}
use Rattle.typing_analysis.specs.Kept.{infos_from}
use Rattle.typing_analysis.proofs.KeptLemmas.{kept_is}
use Rattle.typing_analysis.proofs.summary.Summarized.into_info.Goals as goal

pub returns : goal.returns
returns c = λ m f summaries is.
    let s = c.args.self in
    kept_is m f summaries s is c.of_parts.result c.of_parts.ensures.uses (ap (λ v. v.items) c.of_parts.ensures.sampling ∙ c.in_ok-sampling.ensures) c.of_parts.ensures.may_kill
    (ap (λ v. v.items) c.of_parts.ensures.expressions ∙ c.in_ok-expressions.ensures
    ∙ (λ i. infos_from (c.deref.ensures.value i) (c.deref-2.ensures.value i) (c.deref-3.ensures.value i) 0 s.types.items))
    (subst (λ (pairs : SampledPairs). AreKeys pairs.items c.of_parts.result.sampling_set.items) (sym c.of_parts.ensures.sampling)
    (subst (λ (keys : SampledKeys). AreKeys c.in_ok-sampling.sampling.items keys.items) (sym c.of_parts.ensures.sampling_set) c.in_ok-sampling_set.ensures))
    c.of_parts.ensures.stages c.of_parts.ensures.blending
