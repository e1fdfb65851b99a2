use Rattle.judgement_laws.proofs.Handles.{returns_keep_handles}
use Rattle.judgement_laws.proofs.return_laws.returns_keep_handles.Goals as goal

pub returns : goal.returns
returns c = returns_keep_handles
