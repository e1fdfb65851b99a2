use Rattle.document_reader.specs.found.View.{document_view}
use Rattle.shader_check.proofs.JudgedLaws.{judgement_of, kept_in}
use Rattle.shader_check.proofs.judge.judge_document.Goals as goal

pub report_on-report-requires : goal.report_on-report-requires
report_on-report-requires c = record { kept = kept_in (document_view c.args.document.now) _ c.in_ok-examined.examined c.in_ok-examined.ensures.examined }

pub returns-in-Ok-clause-judged : goal.returns-in-Ok-clause-judged
returns-in-Ok-clause-judged c = judgement_of (document_view c.args.document.now) _ c.in_ok-examined.examined _ c.in_ok-examined.ensures.examined c.finding-finding.ensures c.in-Ok.ensures
