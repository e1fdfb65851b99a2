-- proofs/traced/explain_written/Answers.antt
use Rattle.document_reader.specs.found.View.{document_view}
use Rattle.check_explanation.proofs.ExplainedLaws.{traced_if}
use Rattle.check_explanation.proofs.traced.explain_written.Goals as goal

pub returns-in-Ok : goal.returns-in-Ok
returns-in-Ok c = traced_if c.args.requested (document_view c.args.document.now) c.in-Ok.explanation c.with_origin.result (record { judged = c.in-Ok.ensures.finding; explains = c.in-Ok.ensures.explains }) c.with_origin.ensures
