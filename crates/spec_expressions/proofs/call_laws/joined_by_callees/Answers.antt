use Rattle.spec_expressions.proofs.SummaryLaws.{joined_by_callees}
use Rattle.spec_expressions.proofs.call_laws.joined_by_callees.Goals as goal

pub returns : goal.returns
returns c = λ globals f summaries others s agree joined. joined_by_callees f summaries others agree globals s joined
