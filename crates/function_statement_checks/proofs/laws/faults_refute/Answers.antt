use Rattle.function_statement_checks.proofs.Refuted.{faults_refute_lem}
use Rattle.function_statement_checks.proofs.laws.faults_refute.Goals as goal

pub returns : goal.returns
returns c = faults_refute_lem
