use Rattle.ir_items.specs.found.View.{module_view}
use Rattle.module_handles.specs.InOrder.{TypesBelow, NamesBefore}
use Rattle.module_handles.proofs.types.fault_of_types.Given as goal

-- The types before this one are valid, and the global expressions so far reference types before it.
abbrev pub invariant-loop-index : goal.invariant-loop-index
invariant-loop-index l = TypesBelow (module_view l.«module») l.index × NamesBefore (module_view l.«module») l.index 0 l.known
