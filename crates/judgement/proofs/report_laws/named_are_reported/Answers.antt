use Rattle.judgement.proofs.Named.{named_are_reported}
use Rattle.judgement.proofs.report_laws.named_are_reported.Goals as goal

pub returns : goal.returns
returns c = named_are_reported
