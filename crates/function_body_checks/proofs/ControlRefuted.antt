-- A fault refutes the rule.
use Rattle.std.proofs.Common.{sym, ◌∙◌, true≢false}
use Rattle.typing_errors.specs.declared.error.FunctionError.{FunctionError}
use Rattle.typing_errors.specs.declared.error.FunctionError.TheVariants as error
use Rattle.ir_blocks.specs.judged.Control.{ControlOK}
use Rattle.ir_blocks.specs.judged.Places.{Place}
use Rattle.ir_blocks.specs.judged.Plain.{PlainBlock}
use Rattle.ir_blocks.specs.judged.Shapes.{Exit, breaks, continues, returns}
use Rattle.function_body_checks.specs.ControlFaults.{IsControlFaultAt, IsLeftWrongly}
use Rattle.function_body_checks.specs.ControlLaws.{FaultsRefute}

left_refutes : (b : PlainBlock) (p : Place) (exit : Exit) → IsLeftWrongly b p exit → ControlOK b → ⊥
left_refutes b p exit w control = true≢false (sym (control p w.statement exit w.stands w.leaves) ∙ w.refused)

refuted : (b : PlainBlock) (e : FunctionError) (p : Place) → IsControlFaultAt b e p → ControlOK b → ⊥
refuted b error.BreakOutsideOfLoopOrSwitch p w control = left_refutes b p breaks w control
refuted b error.ContinueOutsideOfLoop p w control = left_refutes b p continues w control
refuted b error.InvalidReturnSpot p w control = left_refutes b p returns w control
refuted b _ p w control = absurd w

pub faults_refute_lem : FaultsRefute
faults_refute_lem b e wrong control = refuted b e wrong.0 wrong.1 control
