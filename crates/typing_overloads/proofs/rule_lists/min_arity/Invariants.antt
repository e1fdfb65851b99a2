use Rattle.std.proofs.Common.{◌≡◌, fold, min, take}
use Rattle.typing_rules.specs.judged.Laws.{arity}
use Rattle.typing_overloads.proofs.rule_lists.min_arity.Given as goal

abbrev pub invariant-loop-rule : goal.invariant-loop-rule
invariant-loop-rule l = l.least ≡ fold (λ n r. min n (arity r)) l.found (take l.rule-index l.rules)
