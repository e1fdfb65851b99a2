use Rattle.ir_items.specs.found.View.{module_view}
use Rattle.module_globals.specs.Sizes.{AreGreatest}
use Rattle.module_globals.proofs.slots.ImmediateSlots.size_for_module.Given as goal

abbrev pub invariant-loop-place : goal.invariant-loop-place
invariant-loop-place l = AreGreatest (module_view l.«module») l.place l.greatest
