use Rattle.module_globals.proofs.Refuted as refuted
use Rattle.module_globals.proofs.laws.fault_refutes.Goals as goal

pub returns : goal.returns
returns c = refuted.fault_refutes
