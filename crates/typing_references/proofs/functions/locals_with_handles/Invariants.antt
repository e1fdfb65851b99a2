use Rattle.std.proofs.Common.{◌≡◌}
use Rattle.ir_arena.specs.judged.Handles.{handles_from}
use Rattle.ir_items.specs.found.View.{local_view}
use Rattle.typing_references.specs.Faults.{local_missing}
use Rattle.typing_references.specs.First.{first_of}
use Rattle.typing_references.proofs.functions.locals_with_handles.Given as goal

-- the first match of the rest is the first of all
abbrev pub invariant-loop-local : goal.invariant-loop-local
invariant-loop-local l =
    first_of (λ h. local_missing l.bounds (local_view h.1)) l.local-iterator ≡ first_of (λ h. local_missing l.bounds (local_view h.1)) (handles_from 0 l.locals)
