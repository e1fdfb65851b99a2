-- An error of strict scope refutes its requirements.
use Rattle.typing_errors.specs.declared.error.FunctionError.{FunctionError}
use Rattle.ir_items.specs.judged.Plain.{PlainFunction}
use Rattle.spec_statements.specs.judged.Strict.{StrictOK}
use Rattle.function_strict_scope.specs.Faults.{IsStrictFault}

abbrev pub StrictFaultsRefute : Type 0
StrictFaultsRefute = (f : PlainFunction) (e : FunctionError) → IsStrictFault f e → StrictOK f → ⊥
