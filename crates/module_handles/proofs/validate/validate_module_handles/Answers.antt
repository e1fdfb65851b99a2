use Rattle.ir_items.specs.found.View.{module_view}
use Rattle.module_handles.proofs.validate.validate_module_handles.Goals as goal

pub returns-in-Some : goal.returns-in-Some
returns-in-Some c = c.error_of.ensures (module_view c.args.«module».now) c.in-Some.ensures
