use Rattle.spec_statements.proofs.ScopeLaws.{scope_by_walk_lem}
use Rattle.spec_statements.proofs.laws.scope_by_walk.Goals as goal

pub returns : goal.returns
returns c = scope_by_walk_lem
