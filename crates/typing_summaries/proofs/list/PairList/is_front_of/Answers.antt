use Rattle.std.proofs.Common.{length, ap, sym, ◌∙◌, subst}
use Rattle.spec_expressions.specs.judged.Pairs.{pair_eq}
use Rattle.typing_summaries.specs.Fronts.{BeginsWith}
use Rattle.typing_summaries.specs.Listed.{listed}
use Rattle.typing_summaries.proofs.Joining.{begins_both}
use Rattle.typing_summaries.proofs.list.PairList.is_front_of.Goals as goal

pub returns-then-begins_with : goal.returns-then-begins_with
returns-then-begins_with c = λ t.
    let front = c.split_at.result.0.now in
    let behind = c.split_at.result.1.now in
    subst (λ all. BeginsWith pair_eq all (listed c.args.self.now)) (sym c.split_at.ensures.by_index.0)
    (begins_both pair_eq front behind c.args.self.now.few.items c.args.self.now.more (c.split_at.ensures.front_len ∙ ap length c.as_slice-few.ensures)
    (subst (BeginsWith pair_eq front) c.as_slice-few.ensures (c.begins_with.ensures c.if-begins_with.true)) (subst (BeginsWith pair_eq behind) c.as_slice.ensures (c.begins_with-then-begins_with.ensures t)))
