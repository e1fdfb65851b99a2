use Rattle.spec_expressions.proofs.SummaryLaws.{callees_known}
use Rattle.spec_expressions.proofs.call_laws.callees_are_known.Goals as goal

pub returns : goal.returns
returns c = λ m f summaries are below within. callees_known m f summaries are below within
