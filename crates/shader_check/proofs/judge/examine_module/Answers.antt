use Rattle.std.proofs.Common.{subst, false}
use Rattle.ir_flags.specs.declared.settings.Settings.{Settings}
use Rattle.shader_check.proofs.JudgedLaws.{examined_by}
use Rattle.function_modules.specs.Validated.{IsValidated}
use Rattle.ir_items.specs.found.View.{module_view}
use Rattle.shader_check.proofs.judge.examine_module.Goals as goal

pub returns-in-Ok : goal.returns-in-Ok
returns-in-Ok c = (
  subst (λ (z : Settings). IsValidated z false (module_view c.args.«module».now) c.in-Ok.info) c.validator_for-validator.ensures c.in-Ok.ensures.judged,
  c.is_strict.ensures,
)

pub returns : goal.returns
returns c =
    examined_by c.args.settings c.validator_for-validator.result.settings (module_view c.args.«module».now) c.args.«module».now c.in-Err.refusal c.examined_as.result c.validator_for-validator.ensures
    c.in-Err.ensures.judged c.examined_as.ensures
