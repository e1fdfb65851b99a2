-- The type of the ray payloads of the earlier functions of a module.
use Rattle.std.specs.Prelude.{◌≡◌, ◌<◌, ℕ, Option, Some, None, slice_get}
use Rattle.ir_flags.specs.Sets.{Has}
use Rattle.ir_flags.specs.declared.settings.ValidationFlags.{ValidationFlags}
use Rattle.ir_flags.specs.declared.settings.TheConstants.ValidationFlags.{BLOCKS}
use Rattle.spec_expressions.specs.IrItems.{PlainFunction, PlainModule}
use Rattle.spec_statements.specs.judged.Payloads.{HasPayload}

-- one of this many first functions traces a ray with a payload of this type
pub record HasPayloadBefore (m : PlainModule) (count type : ℕ) : Type 0 where
  pub index : ℕ
  pub function : PlainFunction
  pub before : index < count
  pub at : slice_get m.functions index ≡ Some function
  pub traced : HasPayload m function type

-- The payload type kept after this many functions, if bodies are checked: the type of each of their payloads, and none
-- if they have none; otherwise none.
pub record IsPayloadBefore (flags : ValidationFlags) (m : PlainModule) (count : ℕ) (held : Option ℕ) : Type 0 where
  pub some : (type : ℕ) → Has flags.0 BLOCKS.0 → HasPayloadBefore m count type → held ≡ Some type
  pub none : ((type : ℕ) → Has flags.0 BLOCKS.0 → HasPayloadBefore m count type → ⊥) → held ≡ None
