-- The rules of an entry point.
use Rattle.std.specs.Prelude.{ℕ, List, true, Option, IfSome}
use Rattle.ir_flags.specs.declared.settings.Capabilities.{Capabilities}
use Rattle.ir_flags.specs.declared.settings.ValidationFlags.{ValidationFlags}
use Rattle.ir_flags.specs.declared.stages.ShaderStages.{ShaderStages}
use Rattle.ir_flags.specs.declared.settings.Settings.{Settings}
use Rattle.ir_items.specs.judged.Plain.{PlainEntry, PlainModule}
use Rattle.spec_interface.specs.judged.Meshes.{MeshOK}
use Rattle.spec_interface.specs.judged.Payloads.{PayloadOK}
use Rattle.spec_interface.specs.judged.Results.{StageResultOK}
use Rattle.spec_interface.specs.judged.Stages.{StageOK}
use Rattle.spec_interface.specs.judged.Uses.{EntryUses}
use Rattle.spec_interface.specs.judged.UsedVariables.{VariablesOK}
use Rattle.spec_statements.specs.judged.Functions.{Reading, FunctionOK, AllowsStage}
use Rattle.spec_interface.specs.judged.Contexts.{context_of, stage_set}
use Rattle.spec_interface.specs.judged.Varyings.{VaryingsOK, argument_varyings, result_varyings}
use Rattle.spec_interface.specs.declared.varyings.Direction.TheVariants.{Input, Output}

-- The interface of an entry point: its inputs and outputs, and the global variables, given how it uses
-- them.
pub record ConnectionsOK (flags : ValidationFlags) (capabilities : Capabilities) (m : PlainModule) (e : PlainEntry) (Uses : ℕ → ℕ → Type 0) : Type 0 where
  pub arguments : VaryingsOK (context_of flags capabilities m e Input) (argument_varyings m.types e.function.arguments)
  pub result : VaryingsOK (context_of flags capabilities m e Output) (result_varyings m.types e.function.result)
  pub answer : StageResultOK m.types e.stage e.function.result
  pub variables : VariablesOK flags m e Uses
  pub mesh : IfSome e.mesh (MeshOK flags capabilities m e)

-- The entry point meets the rules of its stage, and its function those of functions, given by a lower layer, these stages that
-- may run its callees, these uses of global variables, and this payload type of those before.
pub record EntryOK (reading : Reading) (callees : List ShaderStages) (Uses : ℕ → ℕ → Type 0) (s : Settings) (held : Option ℕ) (m : PlainModule) (e : PlainEntry) : Type 0 where
  pub stage : StageOK s.capabilities e
  pub function : FunctionOK reading s true held m e.function
  pub payload : PayloadOK m e
  pub runs : AllowsStage reading s callees e.function (stage_set e.stage).0
  pub connections : ConnectionsOK s.flags s.capabilities m e (EntryUses e Uses)
