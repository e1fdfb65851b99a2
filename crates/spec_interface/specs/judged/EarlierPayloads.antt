-- The type of the ray payloads of a module's functions and of its earlier entry points.
use Rattle.std.specs.Prelude.{◌≡◌, ◌⊎◌, ◌<◌, ℕ, Option, Some, None, length, slice_get}
use Rattle.ir_flags.specs.Sets.{Has}
use Rattle.ir_flags.specs.declared.settings.ValidationFlags.{ValidationFlags}
use Rattle.ir_flags.specs.declared.settings.TheConstants.ValidationFlags.{BLOCKS}
use Rattle.ir_items.specs.judged.Plain.{PlainEntry, PlainModule}
use Rattle.spec_statements.specs.judged.EarlierPayloads.{HasPayloadBefore}
use Rattle.spec_statements.specs.judged.Payloads.{HasPayload}

-- one of the first entry points, up to this many, traces a ray with a payload of this type
pub record HasEntryPayload (m : PlainModule) (count type : ℕ) : Type 0 where
  pub index : ℕ
  pub entry : PlainEntry
  pub before : index < count
  pub at : slice_get m.entries index ≡ Some entry
  pub traced : HasPayload m entry.function type

-- or a function of the module does
abbrev pub HasPayloadSoFar : PlainModule → (count type : ℕ) → Type 0
HasPayloadSoFar m count type = HasPayloadBefore m (length m.functions) type ⊎ HasEntryPayload m count type

-- The payload type kept after all functions and this many entry points, if bodies are checked: the type of each of their
-- payloads, and none if they have none; otherwise none.
pub record IsPayloadBeforeEntry (flags : ValidationFlags) (m : PlainModule) (count : ℕ) (held : Option ℕ) : Type 0 where
  pub some : (type : ℕ) → Has flags.0 BLOCKS.0 → HasPayloadSoFar m count type → held ≡ Some type
  pub none : ((type : ℕ) → Has flags.0 BLOCKS.0 → HasPayloadSoFar m count type → ⊥) → held ≡ None
