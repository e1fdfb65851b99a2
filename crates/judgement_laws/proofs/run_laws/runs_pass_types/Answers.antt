use Rattle.judgement_laws.proofs.Accepted.{runs_pass_types}
use Rattle.judgement_laws.proofs.run_laws.runs_pass_types.Goals as goal

pub returns : goal.returns
returns c = runs_pass_types
