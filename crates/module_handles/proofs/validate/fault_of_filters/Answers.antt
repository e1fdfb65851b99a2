use Rattle.ir_items.specs.found.View.{module_view}
use Rattle.module_handles.proofs.FunctionFaults.{parent_fault}
use Rattle.module_handles.proofs.PassLemmas.{weaker}
use Rattle.module_handles.proofs.validate.fault_of_filters.Goals as goal

pub returns : goal.returns
returns c = weaker c.forward_parent.result (λ precede. precede) (parent_fault (module_view c.args.«module».now)) c.forward_parent.ensures
