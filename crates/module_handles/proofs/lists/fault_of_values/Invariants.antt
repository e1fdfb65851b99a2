use Rattle.ir_items.specs.found.GlobalView.{values_of}
use Rattle.module_handles.proofs.PassLemmas.{PassBelow}
use Rattle.module_handles.proofs.lists.fault_of_values.Given as goal

-- the values before this one are valid
abbrev pub invariant-loop-index : goal.invariant-loop-index
invariant-loop-index g l = PassBelow (g.C.ItemCheck.passes l.check) (values_of l.values) l.index
