use Rattle.spec_runs.proofs.Strict.{strict_suffices}
use Rattle.spec_runs.proofs.strict_suffices.Goals as goal

pub returns : goal.returns
returns c = strict_suffices
