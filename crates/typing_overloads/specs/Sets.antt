-- Functions on lists of rules.
use Rattle.std.specs.Prelude.{ℕ, List, [], ◌∷◌, Option, Some, None, slice_get, min, max}
use Rattle.std.specs.List.{fold, flat_map}
use Rattle.typing_rules.specs.declared.rules.Rule.{Rule}
use Rattle.typing_rules.specs.declared.rules.ValueType.{ValueType}
use Rattle.typing_rules.specs.judged.Laws.{arity}
use Rattle.typing_rules.specs.judged.Types.{argument_list}

-- the least number of arguments, and 0 if there is no rule
abbrev pub fewest_arguments : List Rule → ℕ
fewest_arguments [] = 0
fewest_arguments (rule ∷ rules) = fold (λ n r. min n (arity r)) (arity rule) rules

-- the greatest number of arguments, and 0 if there is no rule
abbrev pub most_arguments : List Rule → ℕ
most_arguments [] = 0
most_arguments (rule ∷ rules) = fold (λ n r. max n (arity r)) (arity rule) rules

abbrev pub one_or_none : Option ValueType → List ValueType
one_or_none (Some wanted) = wanted ∷ []
one_or_none None = []

-- the types that the rules require at an index, without the rules that have no such argument
abbrev pub arguments_at : ℕ → List Rule → List ValueType
arguments_at place rules = flat_map (λ rule. one_or_none (slice_get (argument_list rule.arguments) place)) rules
