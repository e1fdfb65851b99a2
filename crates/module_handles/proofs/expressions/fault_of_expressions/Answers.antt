use Rattle.ir_types.specs.judged.ExpressionPlain.{expression_view}
use Rattle.ir_items.specs.found.GlobalView.{values_of}
use Rattle.ir_items.specs.found.View.{module_view}
use Rattle.module_handles.proofs.OutsideFaults.{global_fault}
use Rattle.module_handles.proofs.Viewed.{reported_viewed}
use Rattle.module_handles.specs.InOrder.{IsFaultIn, GlobalExpressionOK, IsGlobalExpressionFault}
use Rattle.module_handles.proofs.expressions.fault_of_expressions.Goals as goal

pub returns : goal.returns
returns c =
    let m = module_view c.args.«module».now in
    reported_viewed expression_view (GlobalExpressionOK m) (IsGlobalExpressionFault m) (IsFaultIn m) (values_of c.args.«module».now.global_expressions) (global_fault m) c.fault_of_values.result
    c.fault_of_values.ensures
