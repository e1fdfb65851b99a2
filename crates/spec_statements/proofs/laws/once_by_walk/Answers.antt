use Rattle.spec_statements.proofs.AnswerLaws.{once_by_walk_lem}
use Rattle.spec_statements.proofs.laws.once_by_walk.Goals as goal

pub returns : goal.returns
returns c = once_by_walk_lem
