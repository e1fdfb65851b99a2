use Rattle.function_strict_scope.proofs.Refuted.{strict_faults_refute_lem}
use Rattle.function_strict_scope.proofs.laws.strict_faults_refute.Goals as goal

pub returns : goal.returns
returns c = strict_faults_refute_lem
