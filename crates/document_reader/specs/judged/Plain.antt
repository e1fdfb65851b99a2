-- The document as plain data: sets, lists and numbers.
use Rattle.std.specs.Prelude.{Bool}
use Rattle.ir_flags.specs.declared.settings.Settings.{Settings}
use Rattle.ir_items.specs.judged.Plain.{PlainModule}

-- The settings, whether missing returns are added before the validation, and the module.
pub record PlainDocument : Type 0 where
  pub settings : Settings
  pub returns : Bool
  pub content : PlainModule
