use Rattle.ir_items.specs.found.View.{module_view}
use Rattle.module_handles.specs.InOrder.{NamesBefore}
use Rattle.module_handles.proofs.types.named_between.Given as goal

-- the expressions so far reference types before this one
abbrev pub invariant-loop-place : goal.invariant-loop-place
invariant-loop-place l = NamesBefore (module_view l.«module») l.index l.from l.place
