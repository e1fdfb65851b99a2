use Rattle.function_body_checks.proofs.Ranges.{listed_contains}
use Rattle.function_body_checks.proofs.list.ExpressionList.contains.Goals as goal

pub returns : goal.returns
returns c =
    rw (← c.self.view_is, ← c.index.ensures.value)
    (listed_contains c.self.inside.members c.self.inside.ranges.items c.self.inside.count c.self.invariant c.index.result c.contains.result c.contains.ensures)
