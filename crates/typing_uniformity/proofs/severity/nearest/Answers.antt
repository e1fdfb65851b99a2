use Rattle.std.proofs.Common.{◌≡◌, ◌≤◌, Some, sym, ap, subst, arith}
use Rattle.ir_items.specs.found.GlobalView.{node_view}
use Rattle.ir_items.specs.found.Filters.{nodes_of}
use Rattle.spec_expressions.specs.judged.Severity.{IsNearest}
use Rattle.typing_uniformity.proofs.Nearest.{plain_at, ahead, ahead_before, found, passed}
use Rattle.typing_uniformity.proofs.severity.nearest.Goals as goal

pub returns-then-has_rule : goal.returns-then-has_rule
returns-then-has_rule c =
    let at = plain_at node_view c.args.filters.now c.in-Some.handle c.in-Ok.node.now c.in-Ok.ensures.value in
    let here_found = found (nodes_of c.args.filters.now) c.requires c.in-Some.handle (node_view c.in-Ok.node.now) c.args.rule at (c.has_rule.ensures.0 c.if-has_rule.true) in
    c.loop-current.invariant (Some c.in-Ok.node.now.inner.new_severity)
    (subst (λ s. IsNearest (nodes_of c.args.filters.now) s c.args.rule (Some c.in-Ok.node.now.inner.new_severity)) (sym c.in-Some.is) here_found)

pub loop-current-smaller : goal.loop-current-smaller
loop-current-smaller c =
    let at = plain_at node_view c.args.filters.now c.in-Some.handle c.in-Ok.node.now c.in-Ok.ensures.value in
    let up = ahead_before c.in-Ok.node.now.parent c.in-Some.handle (λ p is. c.requires c.in-Some.handle p (node_view c.in-Ok.node.now) at is) in
    let before : ahead c.loop-current.current ≡ ahead (Some c.in-Some.handle) = ap ahead c.in-Some.is in
    omega arith

pub loop-current-preserved : goal.loop-current-preserved
loop-current-preserved c =
    let at = plain_at node_view c.args.filters.now c.in-Some.handle c.in-Ok.node.now c.in-Ok.ensures.value in
    λ s rest.
    c.loop-current.invariant s
    (subst (λ o. IsNearest (nodes_of c.args.filters.now) o c.args.rule s) (sym c.in-Some.is)
    (passed (nodes_of c.args.filters.now) c.in-Some.handle (node_view c.in-Ok.node.now) c.args.rule s at (λ same. absurd (let yes = c.has_rule.ensures.1 same in let no_rule = c.if-has_rule.false in cc)) rest))
