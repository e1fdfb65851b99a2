use Rattle.judgement_laws.proofs.Accepted.{runs_keep_stage}
use Rattle.judgement_laws.proofs.run_laws.runs_keep_stage.Goals as goal

pub returns : goal.returns
returns c = runs_keep_stage
