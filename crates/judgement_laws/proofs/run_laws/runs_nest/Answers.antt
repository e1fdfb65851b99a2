use Rattle.judgement_laws.proofs.Accepted.{runs_nest}
use Rattle.judgement_laws.proofs.run_laws.runs_nest.Goals as goal

pub returns : goal.returns
returns c = runs_nest
