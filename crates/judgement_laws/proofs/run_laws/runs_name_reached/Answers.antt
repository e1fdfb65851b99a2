use Rattle.judgement_laws.proofs.Chains.{runs_name_reached}
use Rattle.judgement_laws.proofs.run_laws.runs_name_reached.Goals as goal

pub returns : goal.returns
returns c = runs_name_reached
