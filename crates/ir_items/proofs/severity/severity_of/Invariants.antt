-- The rest of the search stays in the arena, and has the same result as the whole search.
use Rattle.std.proofs.Common.{◌<◌, length}
use Rattle.std.specs.Option.{ForSome}
use Rattle.ir_kinds.specs.declared.diagnostics.Severity.{Severity}
use Rattle.ir_items.specs.found.Filters.{nodes_of, HasSeverity}
use Rattle.ir_items.proofs.Paths.{ahead}
use Rattle.ir_items.proofs.severity.severity_of.Given as goal

abbrev pub invariant-loop-current : goal.invariant-loop-current
invariant-loop-current l = record {
  in_arena : ForSome l.current (λ h. h < length l.arena);
  behind : (s : Severity) → HasSeverity (nodes_of l.arena) l.current l.triggering_rule s → HasSeverity (nodes_of l.arena) l.fn.node l.triggering_rule s;
}

abbrev pub decreases-loop-current : goal.decreases-loop-current
decreases-loop-current l = ahead l.current
