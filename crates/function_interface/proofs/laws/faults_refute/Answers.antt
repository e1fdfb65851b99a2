use Rattle.function_interface.proofs.InterfaceRefuted.{faults_refute_lem}
use Rattle.function_interface.proofs.laws.faults_refute.Goals as goal

pub returns : goal.returns
returns c = faults_refute_lem
