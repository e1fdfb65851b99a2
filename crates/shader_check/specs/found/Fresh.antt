-- The results of validators with the same settings for one module.
use Rattle.std.specs.Prelude.{◌≡◌, Bool}
use Rattle.ir_flags.specs.declared.settings.Settings.{Settings}
use Rattle.ir_items.specs.judged.Plain.{PlainModule}
use Rattle.typing_infos.specs.declared.info.ModuleInfo.{ModuleInfo}
use Rattle.shader_check.specs.found.Examined.{refused_by}
use Rattle.function_modules.specs.Validated.{IsValidated, IsValidationFault}
use Rattle.function_modules.specs.FunctionErrors.{ValidationError}

-- no module is valid and invalid, and all its errors are at one step and one item
pub record AreAlike (resolved : Bool) (s : Settings) (m : PlainModule) : Type 0 where
  pub one_verdict : (info : ModuleInfo) (e : ValidationError) → IsValidated s resolved m info → IsValidationFault s resolved m e → ⊥
  pub one_item : (d e : ValidationError) → IsValidationFault s resolved m d → IsValidationFault s resolved m e → refused_by d ≡ refused_by e

abbrev pub AnswersAreAlike : (resolved : Bool) → Type 0
AnswersAreAlike resolved = (s : Settings) (m : PlainModule) → AreAlike resolved s m
