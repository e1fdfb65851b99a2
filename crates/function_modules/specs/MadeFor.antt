-- The layer made of the information on a module, if the steps up to overrides accept it.
use Rattle.std.specs.Prelude.{◌≡◌, Bool, None}
use Rattle.ir_flags.specs.declared.settings.Settings.{Settings}
use Rattle.ir_items.specs.judged.Plain.{PlainModule}
use Rattle.judgement.specs.judged.ModuleSteps.{ModuleOK}
use Rattle.typing_infos.specs.declared.info.ModuleInfo.{ModuleInfo}
use Rattle.function_errors.specs.ModuleSteps.{IsInfoOf}
use Rattle.function_modules.specs.Made.{IsMadeOf}
use Rattle.function_modules.specs.Severities.{AreKnown}
use Rattle.function_modules.specs.declared.real.RealLower.{RealLower}

-- it was made for that module, as the function checks require
abbrev pub MadeForAccepted : Type 0
MadeForAccepted = (s : Settings) (resolved : Bool) (m : PlainModule) (info : ModuleInfo) (lower : RealLower) → ModuleOK s resolved m → IsInfoOf s resolved m info
    → lower.info ≡ info → lower.severities ≡ None → IsMadeOf m lower.info × AreKnown m lower.severities
