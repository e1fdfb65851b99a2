use Rattle.std.proofs.Common.{◌≡◌, ◌∙◌, refl, map, subst}
use Rattle.ir_types.specs.judged.ExpressionPlain.{expression_view}
use Rattle.ir_items.specs.found.GlobalView.{values_of}
use Rattle.spec_expressions.specs.judged.Pairs.{pair_eq}
use Rattle.typing_summaries.specs.Fronts.{BeginsWith}
use Rattle.typing_summaries.specs.Listed.{listed}
use Rattle.typing_summaries.specs.Pairings.{paired}
use Rattle.typing_summaries.proofs.Joining.{shared_is, there_is}
use Rattle.typing_summaries.proofs.pairs.Sampled.join.Goals as goal

pub returns-then-is_front_of : goal.returns-then-is_front_of
returns-then-is_front_of c =
    shared_is (map expression_view (values_of c.args.expressions.now)) c.args.arguments.now c.args.callee.now.items (paired c.args.self.now) (paired (record { pairs = c.shared.result; wrong = c.args.self.now.wrong }))
    (c.passes_all_on.ensures.same c.if-passes_all_on.true) (c.passes_all_on.ensures.once c.if-passes_all_on.true) c.args.self.now.pairs.once (subst (λ front. BeginsWith pair_eq front (listed c.args.self.now.pairs)) c.as_slice.ensures (c.is_front_of.ensures c.if-is_front_of.true)) (c.shared.ensures ∙ c.in_ok-share.ensures) refl

pub returns-then-begins_with : goal.returns-then-begins_with
returns-then-begins_with c =
    there_is (map expression_view (values_of c.args.expressions.now)) c.args.arguments.now c.args.callee.now.items (paired c.args.self.now) (c.passes_all_on.ensures.same c.if-passes_all_on.true)
    (subst (BeginsWith pair_eq (listed c.args.self.now.pairs)) c.as_slice-then-passes_all_on.ensures (c.begins_with.ensures c.if-begins_with.true))
