use Rattle.judgement_laws.proofs.Answers.{answered_by_one}
use Rattle.judgement_laws.proofs.accepted_laws.answered_by_one.Goals as goal

pub returns : goal.returns
returns c = answered_by_one
