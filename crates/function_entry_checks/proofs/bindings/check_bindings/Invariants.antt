use Rattle.std.proofs.Common.{◌-◌, ◌≤◌}
use Rattle.function_entry_checks.proofs.UsedLaws.{AreSeenBelow}
use Rattle.function_entry_checks.specs.Bindings.{IsSeen}
use Rattle.ir_items.specs.found.View.{module_view}
use Rattle.spec_expressions.specs.judged.Summaries.{HasUseBit}
use Rattle.function_entry_checks.proofs.bindings.check_bindings.Given as goal

-- the bindings of those before this one are seen, and no two of them are the same
abbrev pub invariant-loop-index : goal.invariant-loop-index
invariant-loop-index l = (l.from ≤ l.count) × AreSeenBelow (module_view l.«module») (HasUseBit l.uses) l.from (IsSeen l.seen)

abbrev pub decreases-loop-index : goal.decreases-loop-index
decreases-loop-index l = l.count - l.from
