-- The rest of the search has the result of the whole search.
use Rattle.std.proofs.Common.{Option}
use Rattle.ir_kinds.specs.declared.diagnostics.Severity.{Severity}
use Rattle.ir_items.specs.found.Filters.{nodes_of}
use Rattle.typing_uniformity.proofs.Nearest.{ahead}
use Rattle.spec_expressions.specs.judged.Severity.{IsNearest}
use Rattle.typing_uniformity.proofs.severity.nearest.Given as goal

abbrev pub invariant-loop-current : goal.invariant-loop-current
invariant-loop-current l = (s : Option Severity) → IsNearest (nodes_of l.filters) l.current l.rule s → IsNearest (nodes_of l.filters) l.fn.start l.rule s

abbrev pub decreases-loop-current : goal.decreases-loop-current
decreases-loop-current l = ahead l.current
