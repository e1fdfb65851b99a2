-- The `ModuleInfo` of a valid module.
use Rattle.std.specs.Prelude.{Bool}
use Rattle.ir_flags.specs.declared.settings.Settings.{Settings}
use Rattle.ir_items.specs.judged.Plain.{PlainModule}
use Rattle.typing_infos.specs.declared.info.ModuleInfo.{ModuleInfo}
use Rattle.judgement_report.specs.Reported.{IsReported}
use Rattle.function_modules.specs.Validated.{IsValidated}

-- it is what the report of the module requires
abbrev pub ValidatedIsReported : Type 0
ValidatedIsReported = (s : Settings) (resolved : Bool) (m : PlainModule) (info : ModuleInfo) → IsValidated s resolved m info → IsReported m info
