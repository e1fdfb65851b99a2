use Rattle.function_interface.specs.Answered.{AnsweredBelow}
use Rattle.ir_items.specs.found.View.{function_view}
use Rattle.function_interface.proofs.answered.check_answered.Given as goal

-- those before have been answered
abbrev pub invariant-loop-index : goal.invariant-loop-index
invariant-loop-index l = AnsweredBelow (function_view l.function).expressions l.answered l.index
