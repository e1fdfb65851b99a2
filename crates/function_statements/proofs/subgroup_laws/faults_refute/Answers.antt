use Rattle.function_statements.proofs.SubgroupRefuted.{faults_refute_lem}
use Rattle.function_statements.proofs.subgroup_laws.faults_refute.Goals as goal

pub returns : goal.returns
returns c = faults_refute_lem
