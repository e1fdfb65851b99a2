use Rattle.document_reader.specs.found.View.{document_view}
use Rattle.check_wgsl.proofs.ExplainedLaws.{located_if}
use Rattle.check_wgsl.proofs.explained.explain_written.Goals as goal

pub returns-in-Ok : goal.returns-in-Ok
returns-in-Ok c = located_if c.args.requested (document_view c.args.document.now) c.in-Ok.explanation c.located.result (record { judged = c.in-Ok.ensures.finding; explains = c.in-Ok.ensures.explains }) c.located.ensures
