use Rattle.judgement_laws.proofs.Falling.{calls_fall}
use Rattle.judgement_laws.proofs.accepted_laws.calls_fall.Goals as goal

pub returns : goal.returns
returns c = calls_fall
