use Rattle.judgement_laws.proofs.Accepted.{runs_use_live}
use Rattle.judgement_laws.proofs.run_laws.runs_use_live.Goals as goal

pub returns : goal.returns
returns c = runs_use_live
