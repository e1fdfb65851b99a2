use Rattle.std.proofs.Common.{◌≡◌, ◌++◌, drop, filter}
use Rattle.ir_types.specs.judged.Plain.{inner_view}
use Rattle.typing_rules.specs.judged.Ranks.{accepts_inner}
use Rattle.typing_overloads.proofs.rule_lists.accepting.Given as goal

abbrev pub invariant-loop-rule : goal.invariant-loop-rule
invariant-loop-rule l =
    l.left.items ++ filter (accepts_inner l.place (inner_view l.given)) (drop l.rule-index l.rules) ≡ filter (accepts_inner l.place (inner_view l.given)) l.rules
