use Rattle.function_modules.proofs.Assembled.{if_err_as, variables_refused}
use Rattle.function_modules.specs.Validated.{IsRefusedWith}
use Rattle.ir_items.specs.found.View.{module_view}
use Rattle.function_errors.specs.ModuleSteps.variables as variables
use Rattle.function_errors.specs.ModuleSteps.{IsVariableFault}
use Rattle.function_modules.proofs.whole.judge_variables.Goals as goal

pub returns-clause-refused : goal.returns-clause-refused
returns-clause-refused c =
    let v = c.args.validator.now in
    let m = module_view c.args.«module».now in
    if_err_as (variables.IsRefusal v.settings.flags v.settings.capabilities m) (IsRefusedWith (IsVariableFault v.settings.flags v.settings.capabilities m)) (variables_refused v.settings.flags v.settings.capabilities m) c.validate_globals.result c.validate_globals.ensures.refused
