use Rattle.judgement_laws.proofs.Accepted.{strict_runs_use_live}
use Rattle.judgement_laws.proofs.run_laws.strict_runs_use_live.Goals as goal

pub returns : goal.returns
returns c = strict_runs_use_live
