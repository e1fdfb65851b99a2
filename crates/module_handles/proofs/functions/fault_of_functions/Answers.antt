use Rattle.ir_items.specs.found.GlobalView.{values_of}
use Rattle.ir_items.specs.found.View.{function_view, module_view}
use Rattle.module_handles.proofs.FunctionFaults.{function_fault}
use Rattle.module_handles.proofs.Viewed.{reported_viewed}
use Rattle.typing_handles.specs.Conditions.{FunctionConditions}
use Rattle.module_handles.specs.InOrder.{IsFaultIn, IsFunctionFault}
use Rattle.module_handles.proofs.functions.fault_of_functions.Goals as goal

pub returns : goal.returns
returns c =
    let m = module_view c.args.«module».now in
    reported_viewed function_view (FunctionConditions m) (IsFunctionFault m) (IsFaultIn m) (values_of c.args.«module».now.functions) (function_fault m) c.fault_of_values.result c.fault_of_values.ensures
