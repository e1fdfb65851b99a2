use Rattle.document_reader.specs.found.View.{document_view}
use Rattle.check_wgsl.proofs.ExplainedLaws.{explained_under}
use Rattle.check_wgsl.proofs.explained.explain_wgsl.Goals as goal

pub returns-in-Ok : goal.returns-in-Ok
returns-in-Ok c = explained_under c.args.requested (document_view c.in-Ok.document) c.explain_read-diagnosed.result c.in-Ok.ensures c.explain_read-diagnosed.ensures
