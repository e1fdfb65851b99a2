use Rattle.std.proofs.Common.{◌≡◌, take}
use Rattle.typing_overloads.specs.Sets.{arguments_at}
use Rattle.typing_overloads.proofs.rule_lists.required_for.Given as goal

abbrev pub invariant-loop-rule : goal.invariant-loop-rule
invariant-loop-rule l = l.types.items ≡ arguments_at l.place (take l.rule-index l.rules)
