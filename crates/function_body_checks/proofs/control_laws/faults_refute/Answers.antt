use Rattle.function_body_checks.proofs.ControlRefuted.{faults_refute_lem}
use Rattle.function_body_checks.proofs.control_laws.faults_refute.Goals as goal

pub returns : goal.returns
returns c = faults_refute_lem
