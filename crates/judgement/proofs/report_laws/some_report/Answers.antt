use Rattle.judgement.proofs.SomeReport.{some_report}
use Rattle.judgement.proofs.report_laws.some_report.Goals as goal

pub returns : goal.returns
returns c = some_report
