use Rattle.std.proofs.Common.{sym, subst}
use Rattle.ir_flags.specs.declared.settings.Settings.{Settings}
use Rattle.function_modules.proofs.Assembled.{fault_after, made_of, reported_by, validated, widened}
use Rattle.function_modules.specs.Validated.{IsFaultAfter, IsKeptWith, IsRefusedWith, IsValidationFault}
use Rattle.function_errors.specs.declared.error.ValidationError.TheVariants as error
use Rattle.ir_items.specs.found.View.{module_view}
use Rattle.typing_infos.specs.declared.info.ModuleInfo.{ModuleInfo}
use Rattle.typing_handles.proofs.Ordered.{order_gives_conditions}
use Rattle.function_errors.specs.ModuleSteps.{IsModuleFault, IsVariableFault}
use Rattle.function_modules.specs.Made.{IsMadeOf}
use Rattle.function_modules.proofs.whole.judge.Goals as goal

pub over-requires : goal.over-requires
over-requires c = (order_gives_conditions (module_view c.args.«module».now) c.in-Ok.ensures.accepted.handles).filters

pub judge_after-requires : goal.judge_after-requires
judge_after-requires c =
    let m = module_view c.args.«module».now in
    record {
      made = subst (IsMadeOf m) (sym c.in-Ok-over.ensures.info) (made_of c.args.validator.now.settings c.args.resolved m c.in-Ok.info c.in-Ok.ensures.accepted c.in-Ok.ensures.told);
      known = c.in-Ok-over.ensures.severities;
    }

pub returns-in-Err : goal.returns-in-Err
returns-in-Err c =
    let s = c.args.validator.now.settings in
    let m = module_view c.args.«module».now in
    reported_by error.Module (IsModuleFault s c.args.resolved m) (IsValidationFault s c.args.resolved m) (λ x h. h) c.in-Err.refusal c.module_refusal.result c.module_refusal.ensures c.in-Err.ensures.refused

pub returns-in-Err-judge_variables : goal.returns-in-Err-judge_variables
returns-in-Err-judge_variables c =
    let s = c.args.validator.now.settings in
    let m = module_view c.args.«module».now in
    reported_by error.GlobalVariable (IsVariableFault s.flags s.capabilities m) (IsValidationFault s c.args.resolved m) (λ x h. (c.in-Ok.ensures.accepted, h)) c.in-Err-judge_variables.refusal c.global_refusal.result
    c.global_refusal.ensures c.in-Err-judge_variables.ensures.refused

pub returns-in-Ok-judge_after : goal.returns-in-Ok-judge_after
returns-in-Ok-judge_after c =
    let s = c.args.validator.now.settings in
    let m = module_view c.args.«module».now in
    let info = c.in-Ok-judge_after.info in
    let over = subst (λ (z : Settings). IsKeptWith z m c.in-Ok-over.own.lower.info info) c.in-Ok-over.ensures.settings c.in-Ok-judge_after.ensures in
    validated s c.args.resolved m c.in-Ok.ensures.accepted c.in-Ok-judge_variables.ensures.accepted c.in-Ok.info info c.in-Ok.ensures.told (subst (λ (i : ModuleInfo). IsKeptWith s m i info) c.in-Ok-over.ensures.info over)

pub returns-in-Err-judge_after : goal.returns-in-Err-judge_after
returns-in-Err-judge_after c =
    let s = c.args.validator.now.settings in
    let m = module_view c.args.«module».now in
    let refusal = c.in-Err-judge_after.refusal in
    widened (IsFaultAfter s m) (IsValidationFault s c.args.resolved m) (fault_after s c.args.resolved m c.in-Ok.ensures.accepted c.in-Ok-judge_variables.ensures.accepted) refusal
    (subst (λ (z : Settings). IsRefusedWith (IsFaultAfter z m) refusal) c.in-Ok-over.ensures.settings c.in-Err-judge_after.ensures)
