use Rattle.std.proofs.Common.{Some, subst}
use Rattle.ir_kinds.specs.declared.diagnostics.StandardFilterableTriggeringRule.TheVariants.{DerivativeUniformity}
use Rattle.ir_items.specs.found.Filters.{nodes_of}
use Rattle.spec_expressions.specs.judged.Severity.{IsNearest}
use Rattle.typing_uniformity.proofs.Nearest.{one_more}
use Rattle.typing_uniformity.proofs.severity.severities_of.Goals as goal

pub loop-index-preserved : goal.loop-index-preserved
loop-index-preserved c =
    let nodes = nodes_of c.args.«module».now.diagnostic_filters in
    let severity = c.nearest_at-severity.result in
    one_more nodes c.loop-index.known.items severity c.push.new.self.items c.loop-index.index c.in_ok-push.ensures.items c.loop-index.invariant.0 c.loop-index.invariant.1
    (subst (λ h. IsNearest nodes (Some h) DerivativeUniformity severity) c.at.ensures c.nearest_at-severity.ensures)
