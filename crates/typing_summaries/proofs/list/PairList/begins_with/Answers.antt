use Rattle.std.proofs.Common.{subst}
use Rattle.spec_expressions.specs.judged.Pairs.{pair_eq}
use Rattle.typing_summaries.specs.Fronts.{BeginsWith}
use Rattle.typing_summaries.proofs.Joining.{begins_longer}
use Rattle.typing_summaries.proofs.list.PairList.begins_with.Goals as goal

pub returns : goal.returns
returns c = λ t.
    begins_longer pair_eq c.args.self.now.few.items c.args.self.now.more c.args.pairs.now
    (subst (λ front. BeginsWith pair_eq front c.args.pairs.now) c.as_slice.ensures (c.begins_with.ensures t))
