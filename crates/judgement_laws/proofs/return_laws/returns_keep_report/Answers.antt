use Rattle.judgement_laws.proofs.Reports.{returns_keep_report}
use Rattle.judgement_laws.proofs.return_laws.returns_keep_report.Goals as goal

pub returns : goal.returns
returns c = returns_keep_report
