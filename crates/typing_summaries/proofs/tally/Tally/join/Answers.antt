use Rattle.std.proofs.Common.{◌≡◌, ◌∙◌, ◌||◌, Option, Some, sym, ap, slice_get}
use Rattle.std.proofs.lemmas.Result.{on_ok_weaker}
use Rattle.typing_infos.specs.Infos.{summary_of}
use Rattle.spec_expressions.specs.judged.Summaries.{Summary}
use Rattle.typing_summaries.specs.Tallies.{counted, known, tallied, merged, join_summary, paired, pass_all_up}
use Rattle.typing_summaries.proofs.PassedLemmas.{callee_there, callee_missing}
use Rattle.typing_summaries.proofs.tally.Tally.join.Goals.{then-self, else-self}
use Rattle.typing_summaries.proofs.tally.Tally.join.Goals as goal

pub join_pairs-requires-clause-kept : goal.join_pairs-requires-clause-kept
join_pairs-requires-clause-kept c =
    let l = c.in-Some.ensures.lookup in
    record {
      summary = summary_of c.in-Some.info.now;
      found = callee_there c.args.context.now.callees.now c.index-in-Some.result c.index.result c.in-Some.info.now l.3.0 l.1 (c.index.ensures.value ∙ sym c.index-in-Some.ensures.value);
      same = ap (λ s. s.items) (sym c.sampled.ensures);
    }

pub returns-after-self-clause-tally : goal.returns-after-self-clause-tally
returns-after-self-clause-tally c =
    let l = c.in-Some.ensures.lookup in
    let k = known c.args.context.now in
    let t = tallied c.args.self.now in
    let info = c.in-Some.info.now in
    let found = callee_there c.args.context.now.callees.now c.args.callee c.index.result info l.3.0 l.1 c.index.ensures.value in
    let kills : c.if-self.self ≡ (t.may_kill || info.may_kill) = elim c.if-self.branch [
      | then-self w ↦ w.self-is ∙ (w.if-self.true ∙ sym (ap (λ b. b || info.may_kill) w.if-self.true))
      | else-self w ↦ w.self-is ∙ sym (ap (λ b. b || info.may_kill) w.if-self.false)
    ] in
    let uses : counted c.merge.new.self ≡ record { counts = t.counted.counts; uses = merged t.counted.uses info.uses.items } = c.merge.ensures ∙ ap (λ others. record { counts = t.counted.counts; uses = merged t.counted.uses others }) c.uses.ensures in
    on_ok_weaker c.join_pairs.result (λ (pairs : paired c.join_pairs.new.sampled ≡ pass_all_up k.expressions c.args.arguments.now c.sampled.result.now.items t.paired).
    (λ i. record { counted = uses i; paired = (pairs ∙ ap (λ s. pass_all_up k.expressions c.args.arguments.now s.items t.paired) c.sampled.ensures) i; may_kill = kills i })
    ∙ ap (λ (s : Option Summary). join_summary k c.args.arguments.now s t) (sym found)) c.join_pairs.ensures.pairs

pub returns-in-None-clause-tally : goal.returns-in-None-clause-tally
returns-in-None-clause-tally c =
    let l = c.in-None.ensures.lookup in
    let t = tallied c.args.self.now in
    ap (λ (s : Option Summary). join_summary (known c.args.context.now) c.args.arguments.now s t) (sym (callee_missing c.args.context.now.callees.now c.args.callee c.index.result l.3 c.index.ensures.value))
