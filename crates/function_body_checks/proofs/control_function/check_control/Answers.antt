use Rattle.std.proofs.Common.{subst, sym}
use Rattle.ir_blocks.specs.found.View.{block_view}
use Rattle.ir_places.specs.Paths.{IsPlaced}
use Rattle.function_body_checks.proofs.ControlPlaces.{control_wrong}
use Rattle.function_body_checks.specs.ControlFaults.{IsControlFaultAt}
use Rattle.function_body_checks.proofs.control_function.check_control.Goals as goal

pub returns-in-Err : goal.returns-in-Err
returns-in-Err c =
    let t = c.check_block.new.trail in
    let b = block_view c.args.body.now in
    subst (λ e. IsPlaced t (IsControlFaultAt b e)) (sym c.error_of.ensures) (control_wrong t b c.in-Err.wrong c.in-Err.ensures)
