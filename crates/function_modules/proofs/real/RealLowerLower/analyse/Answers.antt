use Rattle.std.proofs.Common.{map}
use Rattle.typing_infos.specs.Infos.{summary_of}
use Rattle.typing_infos.specs.declared.function_info.FunctionInfo.{FunctionInfo}
use Rattle.ir_items.specs.found.View.{function_view, module_view}
use Rattle.function_modules.proofs.Kept.{kept_by, fault_by, own_by}
use Rattle.function_modules.proofs.real.RealLowerLower.analyse.Goals as goal

pub returns-clause-kept : goal.returns-clause-kept
returns-clause-kept c = λ others agree.
    kept_by c.args.flags (module_view c.args.«module».now) (function_view c.args.function.now) others (map (λ (i : FunctionInfo). i.available_stages) c.args.callees.now) c.process_by.result
    c.requires.made.0.handles c.requires.handles (c.process_by.ensures.callees_alone others agree)

pub returns-clause-fault : goal.returns-clause-fault
returns-clause-fault c = λ others agree.
    fault_by c.args.flags (module_view c.args.«module».now) (function_view c.args.function.now) others (map (λ (i : FunctionInfo). i.available_stages) c.args.callees.now) c.process_by.result
    (c.process_by.ensures.callees_alone others agree)

pub returns-clause-own : goal.returns-clause-own
returns-clause-own c = own_by c.args.flags (module_view c.args.«module».now) (function_view c.args.function.now) (map summary_of c.args.callees.now) c.process_by.result c.process_by.ensures.exact
