use Rattle.judgement_laws.proofs.Finding.{returns_dont_matter}
use Rattle.judgement_laws.proofs.return_laws.returns_dont_matter.Goals as goal

pub returns : goal.returns
returns c = returns_dont_matter
