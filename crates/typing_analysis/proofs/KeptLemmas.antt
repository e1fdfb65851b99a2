-- The `FunctionInfo` satisfies the definitions.
use Rattle.std.proofs.Common.{◌≡◌, false, List, length, refl, sym, ap, ◌∙◌, subst}
use Rattle.bitflags.specs.Sets.{known_bits}
use Rattle.ir_flags.specs.Words.{shader_stage_bits}
use Rattle.ir_items.specs.judged.Plain.{PlainFunction, PlainModule}
use Rattle.spec_expressions.specs.judged.Summaries.{Summary, IsJoined}
use Rattle.typing_infos.specs.Infos.{summary_of}
use Rattle.typing_infos.specs.Keys.{AreKeys}
use Rattle.typing_infos.specs.declared.function_info.FunctionInfo.{FunctionInfo}
use Rattle.typing_summaries.specs.Listed.{listed}
use Rattle.typing_summaries.specs.Tallied.{summary_in}
use Rattle.typing_summaries.specs.Tallies.{tallied}
use Rattle.typing_analysis.specs.Infos.{IsFunctionInfo}
use Rattle.typing_analysis.specs.Kept.{infos_from}
use Rattle.typing_analysis.specs.Summarized.{IsSummarized}
use Rattle.typing_analysis.specs.declared.summary.Summarized.{Summarized}
use Rattle.typing_analysis.proofs.InfoLemmas.{infos_are}

module _ (m : PlainModule) (f : PlainFunction) (summaries : List Summary) (s : Summarized) (is : IsSummarized m f summaries s) (info : FunctionInfo)
    (uses : info.uses ≡ s.tally.counts.uses) (sampling : info.sampling.items ≡ listed s.tally.sampled.pairs) (may_kill : info.may_kill ≡ s.tally.may_kill) where
  same_summary : summary_in (tallied s.tally) ≡ summary_of info
  same_summary = λ i. record {
    uses = ap (λ v. v.items) (sym uses) i;
    pairs = sym sampling i;
    may_kill = sym may_kill i;
  }

  pub kept_is : info.expressions.items ≡ infos_from s.uniformities.items s.tally.counts.counts.items s.globals.items 0 s.types.items
      → AreKeys info.sampling.items info.sampling_set.items → info.available_stages.0 ≡ known_bits shader_stage_bits → info.dual_source_blending ≡ false
      → IsFunctionInfo m f summaries info
  kept_is expressions keys stages blending = record {
    expressions = infos_are s.uniformities.items s.tally.counts.counts.items s.globals.items m f summaries s.types.items (tallied s.tally) is.types is.uniformities is.starts is.tally refl info.expressions.items expressions;
    globals = ap (λ v. length v.items) uses ∙ is.tally.uses;
    joined = subst (IsJoined (length m.globals) f summaries) same_summary is.tally.joined;
    sampling_set = keys;
    available_stages = stages;
    dual_source_blending = blending;
  }
