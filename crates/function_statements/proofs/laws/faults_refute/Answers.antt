use Rattle.function_statements.proofs.Refuted.{faults_refute_lem}
use Rattle.function_statements.proofs.laws.faults_refute.Goals as goal

pub returns : goal.returns
returns c = faults_refute_lem
