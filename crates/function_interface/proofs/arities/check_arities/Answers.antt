use Rattle.ir_items.specs.found.View.{function_view, module_view}
use Rattle.function_interface.proofs.ArityLaws.{arity_told, never_missing}
use Rattle.function_interface.proofs.arities.check_arities.Goals as goal

pub returns-in-None : goal.returns-in-None
returns-in-None c = c.in-None.ensures

pub returns-in-None-required : goal.returns-in-None-required
returns-in-None-required c = absurd (never_missing (module_view c.args.«module».now) (function_view c.args.function.now) c.in-Some.fault c.in-Some.ensures.0 c.requires c.in-Some.ensures.2 c.in-None-required.is)

pub returns-in-Some-required : goal.returns-in-Some-required
returns-in-Some-required c =
    arity_told c.arity_fault.new.trail (module_view c.args.«module».now) (function_view c.args.function.now) c.in-Some.fault c.in-Some-required.required c.in-Some-required.is c.in-Some.ensures
