use Rattle.judgement_laws.proofs.Finding.{returns_keep_finding}
use Rattle.judgement_laws.proofs.return_laws.returns_keep_finding.Goals as goal

pub returns : goal.returns
returns c = returns_keep_finding
