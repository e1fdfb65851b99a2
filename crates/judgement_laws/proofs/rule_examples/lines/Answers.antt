use Rattle.std.proofs.Common.{refl}
use Rattle.std.specs.Fmt.{digits}
use Rattle.judgement_laws.proofs.rule_examples.lines.Goals as goal

pub returns-clause-first_type : goal.returns-clause-first_type
unfolding digits
returns-clause-first_type c = refl

pub returns-clause-later_function : goal.returns-clause-later_function
unfolding digits
returns-clause-later_function c = refl
