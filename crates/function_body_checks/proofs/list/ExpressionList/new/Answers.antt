use Rattle.std.proofs.Common.{◌∙◌}
use Rattle.function_body_checks.proofs.Ranges.{listed_of_none}
use Rattle.function_body_checks.proofs.list.ExpressionList.new.Goals as goal

pub invariant_of-result : goal.invariant_of-result
invariant_of-result c = rw c.new.ensures.items (listed_of_none c.reserve.new.self (c.reserve.ensures ∙ c.new-members.ensures))
