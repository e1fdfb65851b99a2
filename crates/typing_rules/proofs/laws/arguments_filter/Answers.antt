use Rattle.typing_rules.specs.judged.Laws.{meets}
use Rattle.typing_rules.proofs.Filters.{filter-commutes, filter-repeats}
use Rattle.typing_rules.proofs.laws.arguments_filter.Goals as goal

pub returns-clause-commute : goal.returns-clause-commute
returns-clause-commute c a b rules = filter-commutes (meets a) (meets b) rules

pub returns-clause-repeat : goal.returns-clause-repeat
returns-clause-repeat c a rules = filter-repeats (meets a) rules
