-- Laws of the errors of varyings.
use Rattle.std.specs.Prelude.{ℕ, List}
use Rattle.spec_interface.specs.judged.Contexts.{VaryingContext}
use Rattle.spec_interface.specs.judged.Varyings.{VaryingsOK}
use Rattle.spec_interface.specs.declared.varyings.Varying.{Varying}
use Rattle.function_varying_checks.specs.Faults.{IsVaryingFault}
use Rattle.function_varying_checks.specs.declared.error.VaryingError.{VaryingError}

-- varyings with an error are invalid
abbrev pub FaultRefutes : Type 0
FaultRefutes = (c : VaryingContext) (vs : List Varying) (index : ℕ) (e : VaryingError) → IsVaryingFault c vs index e → ¬ VaryingsOK c vs
