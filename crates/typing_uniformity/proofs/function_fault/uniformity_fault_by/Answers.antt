use Rattle.std.proofs.lemmas.Result.{IfOk-weaker}
use Rattle.ir_blocks.specs.found.View.{block_view}
use Rattle.ir_items.specs.found.View.{function_view, module_view}
use Rattle.typing_uniformity.specs.Uniform.{IsAnswer}
use Rattle.typing_uniformity.specs.Faults.{IsAnswer as IsFunctionAnswer}
use Rattle.typing_uniformity.proofs.Known.{answered}
use Rattle.typing_uniformity.proofs.function_fault.uniformity_fault_by.Goals as goal

pub returns : goal.returns
returns c =
    let m = module_view c.args.«module».now in
    let f = function_view c.args.function.now in
    let severity = c.derivative_severity_by-severity.result in
    IfOk-weaker c.find_fault.result (IsAnswer c.args.flags severity c.args.uniformities.now (block_view c.args.function.now.body)) (IsFunctionAnswer c.args.flags m f)
    (λ found a. answered m f c.args.uniformities.now c.requires.uniformities c.args.flags severity found c.derivative_severity_by-severity.ensures a)
    c.find_fault.ensures
