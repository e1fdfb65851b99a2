use Rattle.ir_items.specs.found.View.{function_view, module_view}
use Rattle.function_tiny_lower.proofs.Typed.{AreFound}
use Rattle.function_tiny_lower.proofs.types.types_of.Given as goal

abbrev pub invariant-loop-index : goal.invariant-loop-index
invariant-loop-index l = AreFound (module_view l.«module») (function_view l.function) l.types.items l.index
