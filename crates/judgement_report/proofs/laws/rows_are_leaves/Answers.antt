use Rattle.judgement_report.proofs.RunLaws.{rows_are_leaves}
use Rattle.judgement_report.proofs.laws.rows_are_leaves.Goals as goal

pub returns : goal.returns
returns c = rows_are_leaves
