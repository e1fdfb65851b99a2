-- Errors of the interface of an entry point with other stages and with hosts.
use Rattle.std.specs.Prelude.{◌≡◌, ℕ, Some}
use Rattle.function_entry_checks.specs.Faults.{IsVariablesFault}
use Rattle.function_entry_checks.specs.declared.error.EntryPointError.{EntryPointError}
use Rattle.function_entries.specs.OutputFaults.{IsMeshFault}
use Rattle.function_entries.specs.VaryingFaults.{IsAnswerFault, IsArgumentFault, IsGivenFault}
use Rattle.ir_flags.specs.declared.settings.Capabilities.{Capabilities}
use Rattle.ir_flags.specs.declared.settings.ValidationFlags.{ValidationFlags}
use Rattle.ir_items.specs.judged.Plain.{PlainEntry, PlainModule}
use Rattle.ir_items.specs.declared.entries.MeshStageInfo.{MeshStageInfo}
use Rattle.spec_interface.specs.judged.Contexts.{context_of}
use Rattle.spec_interface.specs.judged.Varyings.{result_varyings}
use Rattle.spec_interface.specs.declared.varyings.Direction.TheVariants.{Input, Output}

pub data IsConnectionFault (flags : ValidationFlags) (capabilities : Capabilities) (m : PlainModule) (e : PlainEntry) (Uses : ℕ → ℕ → Type 0) (x : EntryPointError) : Type 0 where
  of_arguments : IsArgumentFault (context_of flags capabilities m e Input) e.function.arguments x → IsConnectionFault flags capabilities m e Uses x
  of_result : IsGivenFault (context_of flags capabilities m e Output) (result_varyings m.types e.function.result) x → IsConnectionFault flags capabilities m e Uses x
  of_answer : IsAnswerFault m.types e.stage e.function.result x → IsConnectionFault flags capabilities m e Uses x
  of_variables : IsVariablesFault flags m e Uses x → IsConnectionFault flags capabilities m e Uses x
  of_mesh : (i : MeshStageInfo) → e.mesh ≡ Some i → IsMeshFault flags capabilities m e i x → IsConnectionFault flags capabilities m e Uses x
