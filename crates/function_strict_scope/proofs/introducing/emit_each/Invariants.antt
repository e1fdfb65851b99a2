use Rattle.ir_arena.specs.judged.Handles.{handles_between}
use Rattle.ir_items.specs.found.View.{function_view}
use Rattle.function_strict_scope.proofs.Ranges.{LeadsRange}
use Rattle.function_strict_scope.proofs.introducing.emit_each.Given as goal

-- the rest leads to the whole
abbrev pub invariant-loop-handle : goal.invariant-loop-handle
invariant-loop-handle l = LeadsRange (function_view l.function) l.fn.sure (handles_between l.fn.range) l.sure (handles_between l.handle-iterator)
