use Rattle.document_reader.specs.found.View.{document_view}
use Rattle.check_explanation.proofs.ExplainedLaws.{explained_if, explained_on, misread_if, misread_explains}
use Rattle.check_explanation.proofs.explanation.explain.Goals as goal

pub returns-in-Ok-clause-finding : goal.returns-in-Ok-clause-finding
returns-in-Ok-clause-finding c = explained_if c.args.bytes.now (document_view c.in-Ok.document) c.explain_document-explanation.result c.in-Ok.ensures.found c.explain_document-explanation.ensures.finding

pub returns-in-Ok-clause-explains : goal.returns-in-Ok-clause-explains
returns-in-Ok-clause-explains c = explained_on c.args.requested c.args.bytes.now (document_view c.in-Ok.document) c.explain_document-explanation.result c.in-Ok.ensures.found c.explain_document-explanation.ensures.explains

pub returns-in-Err-clause-finding : goal.returns-in-Err-clause-finding
returns-in-Err-clause-finding c = misread_if c.args.bytes.now c.in-Err.error c.misread.result c.in-Err.ensures.refused c.misread.ensures

pub returns-in-Err-clause-explains : goal.returns-in-Err-clause-explains
returns-in-Err-clause-explains c = misread_explains c.args.requested c.args.bytes.now c.in-Err.error c.misread.result c.in-Err.ensures.reason c.misread.ensures
