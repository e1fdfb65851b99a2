use Rattle.std.proofs.Common.{◌≡◌, fold, max, take}
use Rattle.typing_rules.specs.judged.Laws.{arity}
use Rattle.typing_overloads.proofs.rule_lists.max_arity.Given as goal

abbrev pub invariant-loop-rule : goal.invariant-loop-rule
invariant-loop-rule l = l.greatest ≡ fold (λ n r. max n (arity r)) l.found (take l.rule-index l.rules)
