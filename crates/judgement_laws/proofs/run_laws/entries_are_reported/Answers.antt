use Rattle.judgement_laws.proofs.Lines.{entries_are_reported}
use Rattle.judgement_laws.proofs.run_laws.entries_are_reported.Goals as goal

pub returns : goal.returns
returns c = entries_are_reported
