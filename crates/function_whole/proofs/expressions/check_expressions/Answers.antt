use Rattle.std.proofs.Common.{map, refl, subst}
use Rattle.std.specs.Int.RustNames.{bit_and}
use Rattle.function_whole.proofs.Below.{more_below}
use Rattle.function_interface.specs.Question.{question}
use Rattle.function_statement_checks.specs.View.{context_view}
use Rattle.function_whole.proofs.expressions.check_expressions.Goals as goal

pub loop-index-preserved : goal.loop-index-preserved
loop-index-preserved g c =
    let q = question (context_view c.args.context.now).m (context_view c.args.context.now).f (map (g.L.Lower.summary c.args.lower.now) c.args.callees.now) (map (g.L.Lower.noted c.args.lower.now) c.args.callees.now) in
    let x = context_view c.args.context.now in
    more_below (g.L.Lower.reading c.args.lower.now q) x c.loop-index.index c.loop-index.stages c.in-Ok.own (bit_and c.loop-index.stages.0 c.in-Ok.own.0) refl
    (g.met.L.Lower.one_run c.args.lower.now q) c.loop-index.invariant
    (subst (λ e. (g.L.Lower.reading c.args.lower.now q).IsAccepted x.capabilities x.forms e) c.at-handle.ensures c.in-Ok.ensures.0)
    (subst (λ e. (g.L.Lower.reading c.args.lower.now q).IsRunBy e c.in-Ok.own) c.at-handle.ensures c.in-Ok.ensures.1)
