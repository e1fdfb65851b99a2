use Rattle.document_reader.specs.found.View.{document_view}
use Rattle.shader_check.proofs.JudgedLaws.{judgement_if, nothing_on}
use Rattle.shader_check.proofs.judge.judge.Goals as goal

pub returns-in-Ok : goal.returns-in-Ok
returns-in-Ok c = judgement_if c.args.bytes.items (document_view c.in-Ok.document) c.judge_document.result c.in-Ok.ensures.found c.judge_document.ensures.judged

pub returns-in-Err-TooLong : goal.returns-in-Err-TooLong
returns-in-Err-TooLong c = nothing_on c.args.bytes.items c.no_document.result c.no_document.ensures.finding c.no_document.ensures.report (λ d reads. c.in-Err-TooLong.ensures.refused (λ e. let x = e in cc) d reads)

pub returns-in-Err-NotJson : goal.returns-in-Err-NotJson
returns-in-Err-NotJson c = nothing_on c.args.bytes.items c.no_document-in-Err-NotJson.result c.no_document-in-Err-NotJson.ensures.finding c.no_document-in-Err-NotJson.ensures.report (λ d reads. c.in-Err-NotJson.ensures.refused (λ e. let x = e in cc) d reads)

pub returns-in-Err-Malformed : goal.returns-in-Err-Malformed
returns-in-Err-Malformed c = nothing_on c.args.bytes.items c.no_document-in-Err-Malformed.result c.no_document-in-Err-Malformed.ensures.finding c.no_document-in-Err-Malformed.ensures.report (λ d reads. c.in-Err-Malformed.ensures.refused (λ e. let x = e in cc) d reads)
