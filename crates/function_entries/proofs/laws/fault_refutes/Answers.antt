use Rattle.function_entries.proofs.Refuted.{connection_fault_refutes, payload_fault_refutes, stage_fault_refutes}
use Rattle.function_entries.proofs.laws.fault_refutes.Goals as goal

pub returns : goal.returns
returns c = record { stage = stage_fault_refutes; payload = payload_fault_refutes; connections = connection_fault_refutes }
