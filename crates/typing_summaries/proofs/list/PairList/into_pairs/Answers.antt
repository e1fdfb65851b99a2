use Rattle.std.proofs.Common.{◌≡◌, ◌∙◌, ◌++◌, sym, subst}
use Rattle.std.specs.Result.{IfOk}
use Rattle.typing_summaries.specs.Listed.{listed}
use Rattle.typing_infos.specs.declared.sampled.SampledPairs.{SampledPairs}
use Rattle.typing_infos.specs.Marks.{EachOnce}
use Rattle.typing_summaries.proofs.list.PairList.into_pairs.Goals as goal

pub of_pairs-requires : goal.of_pairs-requires
of_pairs-requires c =
    let few : c.append.new.values.items ≡ c.args.self.few.items = c.in_ok-append.ensures ∙ (λ i. c.in_ok-pairs.ensures.items i ++ c.as_slice.ensures i) in
    let all : c.append-2.new.values.items ≡ c.args.self.few.items ++ c.args.self.more = c.in_ok-append-2.ensures ∙ (λ i. few i ++ c.as_slice-2.ensures i) in
    subst EachOnce (sym all) c.args.self.once

pub returns : goal.returns
returns c =
    let few : c.append.new.values.items ≡ c.args.self.few.items = c.in_ok-append.ensures ∙ (λ i. c.in_ok-pairs.ensures.items i ++ c.as_slice.ensures i) in
    let all : c.append-2.new.values.items ≡ listed c.args.self = c.in_ok-append-2.ensures ∙ (λ i. few i ++ c.as_slice-2.ensures i) in
    subst (λ items. IfOk c.of_pairs.result (λ (s : SampledPairs). s.items ≡ items)) all c.of_pairs.ensures
