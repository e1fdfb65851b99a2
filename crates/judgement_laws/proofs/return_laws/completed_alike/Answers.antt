use Rattle.judgement_laws.proofs.Completed.{completed_alike}
use Rattle.judgement_laws.proofs.return_laws.completed_alike.Goals as goal

pub returns : goal.returns
returns c = completed_alike
