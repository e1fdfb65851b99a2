use Rattle.ir_items.specs.found.View.{module_view}
use Rattle.function_tiny_lower.specs.Readings.{IsMadeOf}
use Rattle.test_cases.proofs.layer_judged.tell_all.Given as goal

-- the layer stays the one that was made for the module
abbrev pub invariant-loop-function : goal.invariant-loop-function
invariant-loop-function l = IsMadeOf (module_view l.«module») l.validator.lower.infos.items
