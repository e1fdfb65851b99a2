use Rattle.judgement_report.proofs.Noted.{noted_is_reported}
use Rattle.judgement_report.proofs.laws.noted_is_reported.Goals as goal

pub returns : goal.returns
returns c = noted_is_reported
