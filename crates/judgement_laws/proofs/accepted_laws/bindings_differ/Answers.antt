use Rattle.judgement_laws.proofs.Apart.{bindings_differ}
use Rattle.judgement_laws.proofs.accepted_laws.bindings_differ.Goals as goal

pub returns : goal.returns
returns c = bindings_differ
