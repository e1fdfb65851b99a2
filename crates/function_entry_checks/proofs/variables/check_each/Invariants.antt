use Rattle.std.proofs.Common.{◌-◌}
use Rattle.function_entry_checks.proofs.UsedLaws.{EachBelow}
use Rattle.ir_items.specs.found.View.{entry_view, module_view}
use Rattle.spec_expressions.specs.judged.Summaries.{HasUseBit}
use Rattle.function_entry_checks.proofs.variables.check_each.Given as goal

-- those before this one are used as they may be
abbrev pub invariant-loop-index : goal.invariant-loop-index
invariant-loop-index l = EachBelow (module_view l.«module») (entry_view l.entry) (HasUseBit l.uses) l.from

abbrev pub decreases-loop-index : goal.decreases-loop-index
decreases-loop-index l = l.count - l.from
