use Rattle.std.proofs.Common.{◌≡◌, ◌<◌, length, Some, sym, ap, subst, arith}
use Rattle.ir_items.specs.found.GlobalView.{node_view}
use Rattle.ir_items.specs.found.Filters.{nodes_of, HasSeverity}
use Rattle.ir_items.proofs.Paths.{ahead, ahead_before, found, passed}
use Rattle.ir_items.proofs.Places.{plain_at}
use Rattle.ir_items.proofs.severity.severity_of.Goals as goal

pub returns-then-has_rule : goal.returns-then-has_rule
returns-then-has_rule c =
    let at = plain_at node_view c.args.arena.now c.in-Some.handle c.index-filter_node.result.now c.index-filter_node.ensures in
    let here_found = found (nodes_of c.args.arena.now) c.requires.parents c.in-Some.handle (node_view c.index-filter_node.result.now) c.args.triggering_rule at (c.has_rule.ensures.0 c.if-has_rule.true) in
    c.loop-current.invariant.behind _ (subst (λ s. HasSeverity (nodes_of c.args.arena.now) s c.args.triggering_rule c.index-filter_node.result.now.inner.new_severity) (sym c.in-Some.is) here_found)

pub loop-current-smaller : goal.loop-current-smaller
loop-current-smaller c =
    let at = plain_at node_view c.args.arena.now c.in-Some.handle c.index-filter_node.result.now c.index-filter_node.ensures in
    let up = ahead_before c.index-filter_node.result.now.parent c.in-Some.handle (λ p is. c.requires.parents c.in-Some.handle p (node_view c.index-filter_node.result.now) at is) in
    let before : ahead c.loop-current.current ≡ ahead (Some c.in-Some.handle) = ap ahead c.in-Some.is in
    omega arith

pub loop-current-preserved : goal.loop-current-preserved
loop-current-preserved c =
    let at = plain_at node_view c.args.arena.now c.in-Some.handle c.index-filter_node.result.now c.index-filter_node.ensures in
    let within : c.in-Some.handle < length c.args.arena.now = c.loop-current.invariant.in_arena c.in-Some.handle c.in-Some.is in
    record {
      in_arena = λ p is. (let up : p < c.in-Some.handle = c.requires.parents c.in-Some.handle p (node_view c.index-filter_node.result.now) at is in omega arith);
      behind = λ s rest.
          c.loop-current.invariant.behind s
          (subst (λ o. HasSeverity (nodes_of c.args.arena.now) o c.args.triggering_rule s) (sym c.in-Some.is)
          (passed (nodes_of c.args.arena.now) c.in-Some.handle (node_view c.index-filter_node.result.now) c.args.triggering_rule s at (λ same. absurd (let yes = c.has_rule.ensures.1 same in let no = c.if-has_rule.false in cc)) rest));
    }
