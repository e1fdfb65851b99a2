-- Which entry points of a module are valid.
use Rattle.std.specs.Prelude.{◌≡◌, ◌<◌, ◌↔◌, ℕ, List, Option, Some, length, slice_get}
use Rattle.ir_flags.specs.Sets.{Has}
use Rattle.ir_flags.specs.declared.stages.ShaderStages.{ShaderStages}
use Rattle.ir_flags.specs.declared.settings.Settings.{Settings}
use Rattle.ir_items.specs.judged.Plain.{PlainEntry, PlainFunction, PlainModule}
use Rattle.spec_statements.specs.SpecExpressions.{HasUse}
use Rattle.spec_interface.specs.judged.Entries.{EntryOK}
use Rattle.spec_interface.specs.judged.EarlierPayloads.{IsPayloadBeforeEntry}
use Rattle.spec_interface.specs.judged.EntryNames.{IsConflict}
use Rattle.spec_statements.specs.judged.ModuleFunctions.{reading_over}
pub use Rattle.spec_statements.specs.judged.ModuleFunctions.{FunctionAtOK, FunctionsOK}
use Rattle.spec_statements.specs.judged.ExpressionStages.{all_stages}
use Rattle.spec_statements.specs.judged.Functions.{AllowsStage}

-- ---- stages

-- the stages that may run each function of a module, with its callees
pub record AreStages (s : Settings) (m : PlainModule) (stages : List ShaderStages) : Type 0 where
  pub many : length stages ≡ length m.functions
  pub each : (index : ℕ) (f : PlainFunction) (own : ShaderStages) → slice_get m.functions index ≡ Some f → slice_get stages index ≡ Some own
      → (stage : ℕ) → Has own.0 stage ↔ (Has all_stages.0 stage × AllowsStage (reading_over stages m f) s stages f stage)

-- ---- entry points

-- The entry point at an index of a module meets the rules of entry points, over call chains, given the payload type of functions
-- and earlier entry points; and none of those has the same stage and name.
pub record EntryAtOK (s : Settings) (m : PlainModule) (index : ℕ) : Type 0 where
  pub entry : PlainEntry
  pub at : slice_get m.entries index ≡ Some entry
  pub held : Option ℕ
  pub before : IsPayloadBeforeEntry s.flags m index held
  pub stages : List ShaderStages
  pub run : AreStages s m stages
  pub apart : ¬ IsConflict m index entry
  pub ok : EntryOK (reading_over stages m entry.function) stages (HasUse m entry.function) s held m entry

-- all entry points of a module are valid
abbrev pub EntriesOK : Settings → PlainModule → Type 0
EntriesOK s m = (index : ℕ) → index < length m.entries → EntryAtOK s m index
