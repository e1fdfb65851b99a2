use Rattle.judgement_laws.proofs.Falls.{runs_fall_by_breaks}
use Rattle.judgement_laws.proofs.run_laws.runs_fall_by_breaks.Goals as goal

pub returns : goal.returns
returns c = runs_fall_by_breaks
