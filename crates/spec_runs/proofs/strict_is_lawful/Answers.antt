use Rattle.spec_runs.proofs.Strict.{strict_is_lawful}
use Rattle.spec_runs.proofs.strict_is_lawful.Goals as goal

pub returns : goal.returns
returns c = strict_is_lawful
