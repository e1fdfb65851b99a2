use Rattle.std.proofs.Common.{◌≡◌, map, take}
use Rattle.ir_types.specs.found.Faults.{context_of}
use Rattle.ir_types.proofs.contexts.copy_contexts.Given as goal

abbrev pub invariant-loop-context : goal.invariant-loop-context
invariant-loop-context l = map context_of l.copy.items ≡ map context_of (take l.context-index l.contexts)
