use Rattle.module_handles.proofs.PassLemmas.{PassBelow}
use Rattle.module_handles.proofs.lists.fault_of_items.Given as goal

-- the items before this one are valid
abbrev pub invariant-loop-index : goal.invariant-loop-index
invariant-loop-index g l = PassBelow (g.C.ItemCheck.passes l.check) l.items l.index
