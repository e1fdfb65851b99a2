-- The severities so far are those of the nodes before this one.
use Rattle.std.proofs.Common.{◌≡◌, length}
use Rattle.ir_items.specs.found.Filters.{nodes_of}
use Rattle.typing_uniformity.specs.Nearest.{AreNearest}
use Rattle.typing_uniformity.proofs.severity.severities_of.Given as goal

abbrev pub invariant-loop-index : goal.invariant-loop-index
invariant-loop-index l = (length l.known.items ≡ l.index) × AreNearest (nodes_of l.filters) l.known.items
