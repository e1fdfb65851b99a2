use Rattle.spec_runs.proofs.Scopes.{scope_suffices}
use Rattle.spec_runs.proofs.scope_suffices.Goals as goal

pub returns : goal.returns
returns c = scope_suffices
