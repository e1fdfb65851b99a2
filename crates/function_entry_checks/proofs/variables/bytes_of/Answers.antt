use Rattle.std.proofs.Common.{◌∙◌}
use Rattle.function_entry_checks.proofs.VariableLemmas.{size_found, size_missing}
use Rattle.ir_items.specs.found.View.{module_view}
use Rattle.ir_types.specs.judged.Plain.{inner_view}
use Rattle.function_entry_checks.proofs.variables.bytes_of.Goals as goal

pub returns-in-Some : goal.returns-in-Some
returns-in-Some c = c.size.ensures ∙ size_found (module_view c.args.«module».now).types c.args.ty (inner_view c.in-Some.inner.now) c.in-Some.ensures

pub returns-in-None : goal.returns-in-None
returns-in-None c = size_missing (module_view c.args.«module».now).types c.args.ty c.in-None.ensures
