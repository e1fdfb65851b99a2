use Rattle.std.proofs.Common.{◌≡◌}
use Rattle.ir_arena.specs.judged.Handles.{handles_from}
use Rattle.ir_items.specs.found.GlobalView.{node_view}
use Rattle.typing_references.specs.Faults.{parent_forward}
use Rattle.typing_references.specs.First.{first_of}
use Rattle.typing_references.proofs.forward.parents_with_handles.Given as goal

-- the first match of the rest is the first of all
abbrev pub invariant-loop-handle : goal.invariant-loop-handle
invariant-loop-handle l =
    first_of (λ h. parent_forward h.0 (node_view h.1)) l.handle-iterator ≡ first_of (λ h. parent_forward h.0 (node_view h.1)) (handles_from 0 l.filters)
