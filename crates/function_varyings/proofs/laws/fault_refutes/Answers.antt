use Rattle.function_varyings.proofs.Refuted as refuted
use Rattle.function_varyings.proofs.laws.fault_refutes.Goals as goal

pub returns : goal.returns
returns c = refuted.fault_refutes
