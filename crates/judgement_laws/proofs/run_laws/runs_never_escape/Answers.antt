use Rattle.judgement_laws.proofs.Accepted.{runs_never_escape}
use Rattle.judgement_laws.proofs.run_laws.runs_never_escape.Goals as goal

pub returns : goal.returns
returns c = runs_never_escape
