-- Errors of entry points, over any layer.
use Rattle.std.specs.Prelude.{◌≡◌, ℕ, Option, true, List, []}
use Rattle.function_entry_checks.specs.Faults.{IsPayloadFault, IsStageFault}
use Rattle.function_entry_checks.specs.declared.error.EntryPointError.{EntryPointError}
use Rattle.function_entry_checks.specs.declared.error.EntryPointError.TheVariants.{ForbiddenStageOperations, Function}
use Rattle.function_entries.specs.ConnectionFaults.{IsConnectionFault}
use Rattle.typing_errors.specs.declared.error.FunctionError.{FunctionError}
use Rattle.function_whole.specs.Faults.{IsFunctionFaultAt}
use Rattle.function_interface.specs.Analysis.{Faults}
use Rattle.ir_types.specs.found.Faults.{error_of, spans_of}
use Rattle.ir_types.specs.declared.refusal.Refusal.{Refusal}
use Rattle.ir_types.specs.declared.refusal.Refusal.TheVariants as refusal
use Rattle.ir_flags.specs.declared.settings.Capabilities.{Capabilities}
use Rattle.ir_flags.specs.declared.settings.ValidationFlags.{ValidationFlags}
use Rattle.ir_flags.specs.declared.stages.ShaderStages.{ShaderStages}
use Rattle.ir_flags.specs.declared.settings.Settings.{Settings}
use Rattle.ir_blocks.specs.judged.Places.{Place}
use Rattle.ir_items.specs.judged.Plain.{PlainEntry, PlainModule}
use Rattle.ir_places.specs.Paths.{IsPlaced}
use Rattle.ir_places.specs.declared.trail.Trail.{Trail}
use Rattle.spec_interface.specs.judged.Entries.{ConnectionsOK, EntryOK}
use Rattle.spec_interface.specs.judged.Uses.{EntryUses}
use Rattle.spec_statements.specs.judged.Functions.{Reading, AllowsStage}
use Rattle.spec_interface.specs.judged.Contexts.{stage_set}

-- The errors of an entry point, given the layer's results for its function, the stages that may run its callees and its uses of
-- global variables: of its stage, its function, its payload, operations that its stage forbids, or its interface. An error of
-- its function is at the place, if it is of a call or in the body.
pub data IsEntryPointFaultAt (reading : Reading) (faults : Faults) (callees : List ShaderStages) (Uses : ℕ → ℕ → Type 0) (s : Settings) (before : Option ℕ) (m : PlainModule) (e : PlainEntry) (p : Place) : EntryPointError → Type 0 where
  of_stage : {x : EntryPointError} → IsStageFault s.capabilities e x → IsEntryPointFaultAt reading faults callees Uses s before m e p x
  of_function : {x : FunctionError} → IsFunctionFaultAt reading faults s true before m e.function x p → IsEntryPointFaultAt reading faults callees Uses s before m e p (Function x)
  of_payload : {x : EntryPointError} → IsPayloadFault m e x → IsEntryPointFaultAt reading faults callees Uses s before m e p x
  of_runs : ¬ AllowsStage reading s callees e.function (stage_set e.stage).0 → IsEntryPointFaultAt reading faults callees Uses s before m e p ForbiddenStageOperations
  of_connections : {x : EntryPointError} → IsConnectionFault s.flags s.capabilities m e (EntryUses e Uses) x → IsEntryPointFaultAt reading faults callees Uses s before m e p x

-- at some place
abbrev pub IsEntryPointFault : Reading → Faults → (callees : List ShaderStages) → (Uses : ℕ → ℕ → Type 0) → Settings → (before : Option ℕ) → PlainModule → PlainEntry → EntryPointError → Type 0
IsEntryPointFault reading faults callees Uses s before m e x = (p : Place) × IsEntryPointFaultAt reading faults callees Uses s before m e p x

-- The entry point is invalid, with this error.
pub record IsRefusedAs (reading : Reading) (faults : Faults) (callees : List ShaderStages) (Uses : ℕ → ℕ → Type 0) (s : Settings) (before : Option ℕ) (m : PlainModule) (e : PlainEntry) (x : EntryPointError) : Type 0 where
  pub refused : ¬ EntryOK reading callees Uses s before m e
  pub fault : IsEntryPointFault reading faults callees Uses s before m e x

-- The interface of the entry point is invalid, with this error.
pub record IsUnconnected (flags : ValidationFlags) (capabilities : Capabilities) (m : PlainModule) (e : PlainEntry) (Uses : ℕ → ℕ → Type 0) (x : EntryPointError) : Type 0 where
  pub refused : ¬ ConnectionsOK flags capabilities m e Uses
  pub fault : IsConnectionFault flags capabilities m e Uses x

-- the refusal of a function, wrapped as one of its entry point
abbrev pub IsReportedAs : Refusal FunctionError → Refusal EntryPointError → Type 0
IsReportedAs (refusal.Memory e) (refusal.Memory d) = Unit {0}
IsReportedAs (refusal.Memory e) (refusal.Fault d) = ⊥
IsReportedAs (refusal.Fault e) (refusal.Memory d) = ⊥
IsReportedAs (refusal.Fault e) (refusal.Fault d) = (error_of d ≡ Function (error_of e)) × (spans_of d ≡ [])

-- out of memory, or the error is one at the place of the trail
abbrev pub IsRefusedAt : Trail → (Place → EntryPointError → Type 0) → Refusal EntryPointError → Type 0
IsRefusedAt t IsFault (refusal.Memory x) = Unit {0}
IsRefusedAt t IsFault (refusal.Fault x) = IsPlaced t (λ p. IsFault p (error_of x))
