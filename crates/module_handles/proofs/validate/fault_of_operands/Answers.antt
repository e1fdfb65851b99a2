use Rattle.ir_items.specs.found.View.{module_view}
use Rattle.module_handles.proofs.FunctionFaults.{global_operand_fault}
use Rattle.module_handles.proofs.PassLemmas.{weaker}
use Rattle.module_handles.proofs.validate.fault_of_operands.Goals as goal

pub returns : goal.returns
returns c = weaker c.forward_operand.result (λ precede. precede) (global_operand_fault (module_view c.args.«module».now)) c.forward_operand.ensures
