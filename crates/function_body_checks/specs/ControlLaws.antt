-- An error refutes the rule.
use Rattle.typing_errors.specs.declared.error.FunctionError.{FunctionError}
use Rattle.ir_blocks.specs.judged.Control.{ControlOK}
use Rattle.ir_blocks.specs.judged.Plain.{PlainBlock}
use Rattle.function_body_checks.specs.ControlFaults.{IsControlFault}

abbrev pub FaultsRefute : Type 0
FaultsRefute = (b : PlainBlock) (e : FunctionError) → IsControlFault b e → ControlOK b → ⊥
