use Rattle.spec_expressions.proofs.laws.faulty_has_none.Goals as goal
use Rattle.spec_expressions.proofs.TypingLaws.{faulty_has_none}

-- src/laws.rt:11:1
pub returns : goal.returns
returns c = faulty_has_none
