use Rattle.std.proofs.Common.{◌≡◌, ◌∙◌, sym, ap, subst}
use Rattle.typing_summaries.specs.Joined.{AreJoined}
use Rattle.typing_summaries.specs.Tallies.{Paired, known, paired, pass_all_up}
use Rattle.typing_summaries.proofs.PassedLemmas.{few_joined}
use Rattle.typing_summaries.proofs.joined.join_pairs.Goals as goal

pub returns-in_ok-pass_all_up-in-None-clause-joined : goal.returns-in_ok-pass_all_up-in-None-clause-joined
returns-in_ok-pass_all_up-in-None-clause-joined c =
    let k = known c.args.context.now in
    let t = paired c.args.sampled.now in
    let done : paired c.pass_all_up.new.self ≡ pass_all_up k.expressions c.args.arguments.now c.args.pairs.now.items t = c.in_ok-pass_all_up-in-None.ensures ∙ ap (λ ps. pass_all_up k.expressions c.args.arguments.now ps t) c.as_slice.ensures in
    subst (λ (z : Paired). AreJoined k c.args.joined.now.passed.items z.pairs) (sym done) (few_joined k c.args.joined.now.passed.items c.args.arguments.now c.args.pairs.now.items t c.requires.joined)
