use Rattle.spec_statements.proofs.StrictLaws.{strict_by_walk_lem}
use Rattle.spec_statements.proofs.laws.strict_by_walk.Goals as goal

pub returns : goal.returns
returns c = strict_by_walk_lem
