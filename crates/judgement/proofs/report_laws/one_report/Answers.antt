use Rattle.judgement.proofs.OneReport.{one_entry_report, one_report}
use Rattle.judgement.proofs.report_laws.one_report.Goals as goal

pub returns-clause-entry : goal.returns-clause-entry
returns-clause-entry c = one_entry_report

pub returns-clause-whole : goal.returns-clause-whole
returns-clause-whole c = one_report
