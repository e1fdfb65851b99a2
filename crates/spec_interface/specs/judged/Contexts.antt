-- The context of the rules of varyings.
use Rattle.std.specs.Prelude.{ℕ, List, Option}
use Rattle.ir_flags.specs.declared.settings.Capabilities.{Capabilities}
use Rattle.ir_flags.specs.declared.settings.ValidationFlags.{ValidationFlags}
use Rattle.ir_flags.specs.declared.stages.ShaderStages.{ShaderStages}
use Rattle.ir_items.specs.judged.Plain.{PlainEntry, PlainModule}
use Rattle.ir_kinds.specs.declared.stages.ShaderStage.{ShaderStage}
use Rattle.ir_types.specs.judged.Plain.{PlainType}
use Rattle.spec_interface.specs.judged.Stages.{stage_row}
use Rattle.spec_interface.specs.declared.varyings.Direction.{Direction}

-- The validation flags, the capabilities and types of the module, and of the entry point its stage, its workgroup
-- size and its task payload variable; and the direction of the varyings.
pub record VaryingContext : Type 0 where
  pub flags : ValidationFlags
  pub capabilities : Capabilities
  pub types : List PlainType
  pub stage : ShaderStage
  pub sizes : List ℕ
  pub payload : Option ℕ
  pub direction : Direction

-- the context of an entry point's varyings
abbrev pub context_of : ValidationFlags → Capabilities → PlainModule → PlainEntry → Direction → VaryingContext
context_of flags capabilities m e direction =
    record { flags = flags; capabilities = capabilities; types = m.types; stage = e.stage; sizes = e.sizes; payload = e.payload; direction = direction }

-- the singleton set of a stage
abbrev pub stage_set : ShaderStage → ShaderStages
stage_set stage = (stage_row stage).set
