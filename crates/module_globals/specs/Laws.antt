-- Laws of the errors of global variables.
use Rattle.std.specs.Prelude.{ℕ}
use Rattle.module_globals.specs.Faults.{IsGlobalFault}
use Rattle.module_globals.specs.declared.error.GlobalVariableError.{GlobalVariableError}
use Rattle.ir_flags.specs.declared.settings.Capabilities.{Capabilities}
use Rattle.ir_flags.specs.declared.settings.ValidationFlags.{ValidationFlags}
use Rattle.ir_items.specs.judged.Plain.{PlainModule}
use Rattle.spec_interface.specs.judged.Globals.{GlobalOK}

-- a variable that has an error is invalid
abbrev pub FaultRefutes : Type 0
FaultRefutes = (flags : ValidationFlags) (capabilities : Capabilities) (m : PlainModule) (handle : ℕ) (e : GlobalVariableError) → IsGlobalFault flags capabilities m handle e → ¬ GlobalOK flags capabilities m handle
