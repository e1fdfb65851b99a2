use Rattle.std.proofs.Common.{◌≡◌, ◌<◌, ℕ, Some, length, slice_get, subst, arith}
use Rattle.std.specs.Option.{ForSome}
use Rattle.ir_items.specs.judged.GlobalPlain.{PlainFilterNode}
use Rattle.ir_items.specs.found.GlobalView.{node_view}
use Rattle.ir_items.specs.found.Filters.{nodes_of}
use Rattle.ir_items.proofs.Places.{plain_at}
use Rattle.test_support.proofs.CheckLemmas.{UpTo, further, everywhere}
use Rattle.test_support.proofs.checks.parents_precede.Goals as goal

pub loop-place-preserved : goal.loop-place-preserved
loop-place-preserved c =
    let at = plain_at node_view c.args.arena.now c.at.result c.index.result.now c.index.ensures in
    let stands : slice_get (nodes_of c.args.arena.now) c.loop-place.place ≡ Some (node_view c.index.result.now) = subst (λ (n : ℕ). slice_get (nodes_of c.args.arena.now) n ≡ Some (node_view c.index.result.now)) c.at.ensures at in
    further (λ place (node : PlainFilterNode). ForSome node.parent (λ parent. parent < place)) (nodes_of c.args.arena.now) c.loop-place.place (node_view c.index.result.now) stands (c.parent_is_before.ensures c.if-not-parent_is_before.false) c.loop-place.invariant

pub returns : goal.returns
returns c =
    let end : c.loop-place.place ≡ length c.args.arena.now = (let e = c.len-place-end.ensures.value in omega arith) in
    let each = everywhere node_view (λ place (node : PlainFilterNode). ForSome node.parent (λ parent. parent < place)) c.args.arena.now (subst (λ (n : ℕ). UpTo (λ place (node : PlainFilterNode). ForSome node.parent (λ parent. parent < place)) (nodes_of c.args.arena.now) n) end c.loop-place.invariant) in
    λ yes handle parent node at up. each handle node at parent up
