use Rattle.std.proofs.Common.{◌-◌, ◌≤◌}
use Rattle.function_entry_checks.proofs.UsedLaws.{IsFoundBelow}
use Rattle.ir_items.specs.found.View.{module_view}
use Rattle.spec_expressions.specs.judged.Summaries.{HasUseBit}
use Rattle.function_entry_checks.proofs.variables.check_immediates.Given as goal

-- the immediate is found that is used before this one, if one is
abbrev pub invariant-loop-index : goal.invariant-loop-index
invariant-loop-index l = (l.from ≤ l.count) × IsFoundBelow (module_view l.«module») (HasUseBit l.uses) l.from l.found

abbrev pub decreases-loop-index : goal.decreases-loop-index
decreases-loop-index l = l.count - l.from
