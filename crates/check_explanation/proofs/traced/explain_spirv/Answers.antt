use Rattle.document_reader.specs.found.View.{document_view}
use Rattle.check_explanation.proofs.ExplainedLaws.{explained_under}
use Rattle.check_explanation.proofs.Soundness.{checked}
use Rattle.check_explanation.proofs.traced.explain_spirv.Goals as goal

pub returns-in-Ok : goal.returns-in-Ok
returns-in-Ok c = explained_under c.args.requested (document_view c.in-Ok.document) c.explain_made-traced.result (checked _ c.in-Ok.ensures) c.explain_made-traced.ensures
