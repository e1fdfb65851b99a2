use Rattle.spec_expressions.proofs.SummaryLaws.{summary_of_joined}
use Rattle.spec_expressions.proofs.call_laws.joined_is_summary.Goals as goal

pub returns : goal.returns
returns c = λ m f summaries s known joined. summary_of_joined m f summaries known s joined
