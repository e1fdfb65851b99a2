use Rattle.function_statements.proofs.OperationRefuted.{faults_refute_lem}
use Rattle.function_statements.proofs.operation_laws.faults_refute.Goals as goal

pub returns : goal.returns
returns c = faults_refute_lem
