use Rattle.ir_items.specs.found.GlobalView.{node_view}
use Rattle.ir_items.specs.found.Filters.{nodes_of}
use Rattle.typing_uniformity.proofs.Nearest.{plain_at, own_or_behind}
use Rattle.typing_uniformity.proofs.severity.nearest_at.Goals as goal

pub returns : goal.returns
returns c =
    let at = plain_at node_view c.args.filters.now c.args.handle c.index-node.result.now c.index-node.ensures in
    own_or_behind (nodes_of c.args.filters.now) c.requires.precede c.args.handle (node_view c.index-node.result.now) c.nearest_by.result c.own_or.result at c.nearest_by.ensures c.own_or.ensures
