-- Laws of the errors of entry points.
use Rattle.std.specs.Prelude.{◌≡◌, ℕ, List, Option}
use Rattle.function_entry_checks.specs.Faults.{IsPayloadFault, IsStageFault}
use Rattle.function_entry_checks.specs.declared.error.EntryPointError.{EntryPointError}
use Rattle.function_entries.specs.ConnectionFaults.{IsConnectionFault}
use Rattle.function_entries.specs.MeshFaults.{AreSame}
use Rattle.ir_flags.specs.declared.settings.Capabilities.{Capabilities}
use Rattle.ir_flags.specs.declared.settings.ValidationFlags.{ValidationFlags}
use Rattle.ir_items.specs.judged.Plain.{PlainEntry, PlainModule}
use Rattle.ir_items.specs.declared.entries.MeshStageInfo.{MeshStageInfo}
use Rattle.spec_expressions.specs.judged.Summaries.{HasUseBit}
use Rattle.spec_expressions.specs.declared.global_use.GlobalUse.{GlobalUse}
use Rattle.spec_interface.specs.judged.Entries.{ConnectionsOK}
use Rattle.spec_interface.specs.judged.Meshes.{ImpliesMeshInfo}
use Rattle.spec_interface.specs.judged.Payloads.{PayloadOK}
use Rattle.spec_interface.specs.judged.Stages.{StageOK}

abbrev pub StageFaultRefutes : Type 0
StageFaultRefutes = (capabilities : Capabilities) (e : PlainEntry) (x : EntryPointError) → IsStageFault capabilities e x → ¬ StageOK capabilities e

abbrev pub PayloadFaultRefutes : Type 0
PayloadFaultRefutes = (m : PlainModule) (e : PlainEntry) (x : EntryPointError) → IsPayloadFault m e x → ¬ PayloadOK m e

-- with these uses of global variables
abbrev pub ConnectionFaultRefutes : Type 0
ConnectionFaultRefutes = (flags : ValidationFlags) (capabilities : Capabilities) (m : PlainModule) (e : PlainEntry) (uses : List GlobalUse) (x : EntryPointError)
    → IsConnectionFault flags capabilities m e (HasUseBit uses) x → ¬ ConnectionsOK flags capabilities m e (HasUseBit uses)

-- a variable implies one `MeshStageInfo`, with the same overrides
abbrev pub OneImplied : Type 0
OneImplied = (m : PlainModule) (variable : ℕ) (i j : MeshStageInfo) (vertices_by primitives_by vertices_by_other primitives_by_other : Option ℕ)
    → ImpliesMeshInfo m variable i vertices_by primitives_by → ImpliesMeshInfo m variable j vertices_by_other primitives_by_other
    → AreSame i j × (vertices_by ≡ vertices_by_other) × (primitives_by ≡ primitives_by_other)
